-- A piece of the log, line by line: what code's buffer and position become is what `fed` makes of them, byte by byte.
-- Assumes nothing.
use Prim.Native.Nat.{ℕ, suc, ◌+◌, ◌-◌, ◌≤◌, ◌<◌}
use native.Mathlib.Omega.{arith}
use native.Mathlib.Numerals.{add-one}
use mathlib.Core.Path.{◌≡◌, refl, ap, ◌∙◌, sym}
use mathlib.Core.Logic.{◌≢◌}
use mathlib.Core.Bool.{Bool, true, false, cond, not, true≢false, false≢true}
use mathlib.Core.List.{List, [], ◌∷◌, ◌++◌, append_assoc, append-nil}
use lib.ListN.{length, take, drop, set, get_or, length-take, length-drop, length-set, length-append, take-append-drop}
use Rattle.std.proofs.lemmas.List.{take_min}
use lib.Seq.{take-suc-set}
use lib.Dec.{eqb, ltb}
use borrow.Author.Tests.{lt-ltb, le-ltb, ltb-true, ltb-false, ne_eqb, eqb-false}
use Rattle.word.specs.Word.{link_bits}
use Rattle.calls.proofs.Cases.{by_test}
use Rattle.machine.specs.Exec.{World}
use Rattle.access_log.specs.Line.{newline}
use Rattle.access_log.specs.Text.{Text, text, with_byte, with_bytes}
use Rattle.std.specs.Prelude.{min, Option, Some, None, Result, Ok, Err, position}
use Rattle.std.specs.List.{position_or_len}
use Rattle.replay.specs.declared.player.Position.{Position}
use Rattle.replay.specs.declared.player.due.Due.{Due}
use Rattle.replay.specs.declared.player.due.Stop.{Stop}
use Rattle.replay.specs.declared.player.progress.Playing.{Playing}
use Rattle.replay.specs.declared.player.progress.Stopped.{Stopped}
use Rattle.replay.specs.declared.player.Report.{Report}
use Rattle.replay.specs.Replay.{Player, playing, stopped, report, next_line, ends}
use Rattle.replay.specs.Player.{quick, Feed, feed, kept, line_ended, fed_byte, fed, lastly, reports}
use Rattle.replay.specs.State.{due_in, due_lines, stopped_by, after_line, player_at, feed_at, due_of, playing_after, feed_of, line_length, ends_line, ends_after}
use Rattle.replay.proofs.PositionLaws.{due_again}

-- ---- bytes kept

unfoldable contents : Text → List ℕ
contents t = take t.len t.bytes

unfoldable kept_all : List ℕ → List ℕ → List ℕ
kept_all l [] = l
kept_all l (b ∷ bs) = kept_all (kept l b) bs

appended : (bytes : List ℕ) (len b : ℕ) → len < length bytes → take (len + 1) (set bytes len b) ≡ take len bytes ++ b ∷ []
appended bytes len b h = rw add-one (take-suc-set bytes len b h)

kept_by : (t : Bool) (bytes : List ℕ) (len b : ℕ) → ltb len 64 ≡ t → length bytes ≡ 64 →
    contents (cond t (text (set bytes len b) (len + 1)) (text bytes len)) ≡ kept (take len bytes) b
unfolding contents text kept
kept_by true bytes len b e h =
    let l : len < 64 = ltb-true len 64 e in
    appended bytes len b (omega arith) ∙ simp (lt-ltb (length (take len bytes)) 64 (omega (arith, length-take len bytes)))
kept_by false bytes len b e h =
    let l = ltb-false len 64 e in
    simp (le-ltb (length (take len bytes)) 64 (omega (arith, length-take len bytes)))

with_kept : (t : Text) (b : ℕ) → length t.bytes ≡ 64 → contents (with_byte t b) ≡ kept (contents t) b
unfolding with_byte text contents
with_kept t b h = rw h (kept_by (ltb t.len 64) t.bytes t.len b refl h)

with_length : (t : Text) (b : ℕ) → length (with_byte t b).bytes ≡ length t.bytes
unfolding with_byte
with_length t b = by_test (λ (x : Text). length x.bytes ≡ length t.bytes) (ltb t.len (length t.bytes)) (λ e. length-set t.bytes t.len b) (λ e. refl)

kept_all_lem : (bs : List ℕ) (t : Text) → length t.bytes ≡ 64 → contents (with_bytes t bs) ≡ kept_all (contents t) bs
unfolding with_bytes kept_all
kept_all_lem [] t h = refl
kept_all_lem (b ∷ bs) t h = kept_all_lem bs (with_byte t b) (with_length t b ∙ h) ∙ ap (λ (l : List ℕ). kept_all l bs) (with_kept t b h)

kept_text : (bs line after : List ℕ) (len end : ℕ) → length line ≡ 64 → text after end ≡ with_bytes (text line len) bs → take end after ≡ kept_all (take len line) bs
unfolding text contents
kept_text bs line after len end h e = ap contents e ∙ kept_all_lem bs (text line len) h

kept_more : (l bs : List ℕ) → length l + length bs ≤ 64 → kept_all l bs ≡ l ++ bs
unfolding kept_all kept
kept_more l [] h = sym (append-nil l)
kept_more l (b ∷ bs) h =
    simp (lt-ltb (length l) 64 (omega arith)) (kept_more (l ++ b ∷ []) bs (omega (arith, length-append l (b ∷ []))) ∙ append_assoc l (b ∷ []) bs)

-- the kept bytes are no more than the buffer
with_size : (bs : List ℕ) (t : Text) → length (with_bytes t bs).bytes ≡ length t.bytes
unfolding with_bytes
with_size [] t = refl
with_size (b ∷ bs) t = with_size bs (with_byte t b) ∙ with_length t b

kept_size : (bs line after : List ℕ) (len end : ℕ) → length line ≡ 64 → text after end ≡ with_bytes (text line len) bs → length after ≡ 64
unfolding text
kept_size bs line after len end h e = ap (λ (t : Text). length t.bytes) e ∙ with_size bs (text line len) ∙ h

take_most : (after : List ℕ) (end : ℕ) → length after ≡ 64 → take (min end 64) after ≡ take end after
take_most after end h = ap (λ (n : ℕ). take (min end n) after) (sym h) ∙ take_min end after

-- ---- a line, or a part of one

module _ (n : ℕ) (w : World) (due : List (List ℕ)) (k : ℕ) where
  abbrev part : List ℕ → Feed
  part l = feed (playing w due k) l

  open_by : (t : Bool) (b : ℕ) (bs l : List ℕ) → eqb b newline ≡ t → cond t 1 (suc (line_length bs)) ≡ suc (length bs) → ends_after b bs ≡ false →
      (line_length bs ≡ length bs → ends_line bs ≡ false → (m : List ℕ) → fed n (part m) bs ≡ part (kept_all m bs)) → fed n (fed_byte n (part l) b) bs ≡ part (kept_all (kept l b) bs)
  unfolding fed fed_byte kept_all
  open_by true b [] l e h f rest = absurd (true≢false (sym e ∙ f))
  open_by true b (c ∷ bs) l e h f rest = absurd (omega arith)
  open_by false b [] l e h f rest = simp e
  open_by false b (c ∷ bs) l e h f rest = simp e (rest (omega arith) f (kept l b))

  fed_open : (bs l : List ℕ) → line_length bs ≡ length bs → ends_line bs ≡ false → fed n (part l) bs ≡ part (kept_all l bs)
  unfolding fed line_length kept_all
  fed_open [] l h e = refl
  fed_open (b ∷ bs) l h e = open_by (eqb b newline) b bs l refl h e (λ h' e' m. fed_open bs m h' e')

  abbrev ended : List ℕ → Feed
  ended l = line_ended (quick n (playing w due k) l) l

  ended_by : (t : Bool) (b : ℕ) (bs l : List ℕ) → eqb b newline ≡ t → cond t 1 (suc (line_length bs)) ≡ suc (length bs) → ends_after b bs ≡ true →
      (line_length bs ≡ length bs → ends_line bs ≡ true → (m : List ℕ) → fed n (part m) bs ≡ ended (kept_all m bs)) → fed n (fed_byte n (part l) b) bs ≡ ended (kept_all (kept l b) bs)
  unfolding fed fed_byte kept_all
  ended_by true b [] l e h f rest = simp e
  ended_by true b (c ∷ bs) l e h f rest = absurd (omega arith)
  ended_by false b [] l e h f rest = absurd (false≢true (sym e ∙ f))
  ended_by false b (c ∷ bs) l e h f rest = simp e (rest (omega arith) f (kept l b))

  fed_ended : (bs l : List ℕ) → line_length bs ≡ length bs → ends_line bs ≡ true → fed n (part l) bs ≡ ended (kept_all l bs)
  unfolding fed line_length kept_all
  fed_ended [] l h e = absurd (false≢true e)
  fed_ended (b ∷ bs) l h e = ended_by (eqb b newline) b bs l refl h e (λ h' e' m. fed_ended bs m h' e')

-- ---- positions

module _ (p : Playing) (line due bs : List ℕ) (w : World) (one : line_length bs ≡ length bs) where
  abbrev ds : List (List ℕ)
  ds = due_lines (due_of p) due

  abbrev here : Feed
  here = fed link_bits (feed_of (Ok p) line due w) bs

  here_ended : ends_line bs ≡ true → here ≡ line_ended (quick link_bits (playing w ds p.lines) (kept_all (take p.line line) bs)) (kept_all (take p.line line) bs)
  unfolding feed_of
  here_ended e = fed_ended link_bits w ds p.lines bs (take p.line line) one e

  pub part_kept : (after : List ℕ) (end : ℕ) → length line ≡ 64 → ends_line bs ≡ false → text after end ≡ with_bytes (text line p.line) bs →
      feed_of (Ok (record { lines = p.lines; line = end; due = p.due; mask = p.mask })) after due w ≡ here
  unfolding feed_of
  part_kept after end size e put =
      ap (feed (playing w ds p.lines)) (kept_text bs line after p.line end size put) ∙ sym (fed_open link_bits w ds p.lines bs (take p.line line) one e)

  module _ (ended : ends_line bs ≡ true) (l : List ℕ) (is : l ≡ kept_all (take p.line line) bs) (r : Result (Option Due) Stop) (due' : List ℕ) (w' : World)
      (played : (k : ℕ) → after_line r k due' w' ≡ quick link_bits (playing w ds k) l) where
    here_played : here ≡ line_ended (after_line r p.lines due' w') l
    here_played =
        here_ended ended
        ∙ ap (λ (x : List ℕ). line_ended (quick link_bits (playing w ds p.lines) x) x) (sym is)
        ∙ ap (λ (x : Player). line_ended x l) (sym (played p.lines))

    goes_on_lem : (bytes : List ℕ) (d : Option Due) (q : Playing) → r ≡ Ok d → q ≡ playing_after (next_line p.lines) d → feed_of (Ok q) bytes due' w' ≡ here
    unfolding feed_of after_line
    goes_on_lem bytes d q e f =
        ap (λ (x : Playing). feed_of (Ok x) bytes due' w') f
        ∙ ap (λ (x : Option Due). feed (playing w' (due_lines x due') (next_line p.lines)) []) (due_again (next_line p.lines) d)
        ∙ sym (here_played ∙ ap (λ (x : Result (Option Due) Stop). line_ended (after_line x p.lines due' w') l) e)

    stops : (after : List ℕ) (end : ℕ) (s : Stop) (q : Stopped) → r ≡ Err s → q ≡ record { lines = p.lines; line = end; stop = s } → take end after ≡ l → feed_of (Err q) after due' w' ≡ here
    unfolding feed_of after_line
    stops after end s q e f g =
        ap (λ (x : Stopped). feed_of (Err x) after due' w') f
        ∙ ap (feed (stopped_by s p.lines due')) g
        ∙ sym (here_played ∙ ap (λ (x : Result (Option Due) Stop). line_ended (after_line x p.lines due' w') l) e)

  -- the end of a line whose first bytes are kept
  module _ (ended : ends_line bs ≡ true) (size : length line ≡ 64) (after : List ℕ) (end : ℕ) (put : text after end ≡ with_bytes (text line p.line) bs) (r : Result (Option Due) Stop) (due' : List ℕ) (w' : World)
      (played : (k : ℕ) → after_line r k due' w' ≡ quick link_bits (playing w ds k) (take (min end 64) after)) where
    first : take (min end 64) after ≡ kept_all (take p.line line) bs
    first = take_most after end (kept_size bs line after p.line end size put) ∙ kept_text bs line after p.line end size put

    pub kept_goes_on : (d : Option Due) (q : Playing) → r ≡ Ok d → q ≡ playing_after (next_line p.lines) d → feed_of (Ok q) after due' w' ≡ here
    kept_goes_on d q e f = goes_on_lem ended (take (min end 64) after) first r due' w' played after d q e f

    pub kept_stops : (s : Stop) (q : Stopped) → r ≡ Err s → q ≡ record { lines = p.lines; line = end; stop = s } → feed_of (Err q) after due' w' ≡ here
    kept_stops s q e f = stops ended (take (min end 64) after) first r due' w' played after end s q e f (sym (take_most after end (kept_size bs line after p.line end size put)))

  -- a whole line, played where it stands
  module _ (ended : ends_line bs ≡ true) (none : p.line ≡ 0) (fits : length bs ≤ 64) (r : Result (Option Due) Stop) (due' : List ℕ) (w' : World)
      (played : (k : ℕ) → after_line r k due' w' ≡ quick link_bits (playing w ds k) bs) where
    whole : bs ≡ kept_all (take p.line line) bs
    whole = rw none (sym (kept_more [] bs (omega arith)))

    pub whole_goes_on : (d : Option Due) (q : Playing) → r ≡ Ok d → q ≡ playing_after (next_line p.lines) d → feed_of (Ok q) line due' w' ≡ here
    whole_goes_on d q e f = goes_on_lem ended bs whole r due' w' played line d q e f

    pub whole_stops : (after : List ℕ) (end : ℕ) (s : Stop) (q : Stopped) → length line ≡ 64 → text after end ≡ with_bytes (text line 0) bs → r ≡ Err s → q ≡ record { lines = p.lines; line = end; stop = s } →
        feed_of (Err q) after due' w' ≡ here
    whole_stops after end s q size put e f =
        stops ended bs whole r due' w' played after end s q e f (kept_text bs line after 0 end size put ∙ kept_more [] bs (omega arith))

-- ---- a piece

stays : (n : ℕ) (r : Report) (d line rest : List ℕ) → fed n (feed (stopped r d) line) rest ≡ feed (stopped r d) line
unfolding fed fed_byte
stays n r d line [] = refl
stays n r d line (b ∷ rest) = stays n r d line rest

pub over_stays : (q : Position) (line due : List ℕ) (w : World) (rest : List ℕ) → eqb q.stop 0 ≡ false → feed_at q line due w ≡ fed link_bits (feed_at q line due w) rest
unfolding feed_at player_at
over_stays q line due w rest f = simp f (sym (stays link_bits _ _ (take q.line line) rest))

pub stopped_stays : (q : Stopped) (line due : List ℕ) (w : World) (rest : List ℕ) → fed link_bits (feed_of (Err q) line due w) rest ≡ feed_of (Err q) line due w
unfolding feed_of
stopped_stays q line due w rest = stays link_bits _ _ (take q.line line) rest

pub fed_append : (n : ℕ) (f : Feed) (a b : List ℕ) → fed n f (a ++ b) ≡ fed n (fed n f a) b
unfolding fed
fed_append n f [] b = refl
fed_append n f (c ∷ a) b = fed_append n (fed_byte n f c) a b

-- the first line of a text is one line
one_by : (t : Bool) (b : ℕ) (bs : List ℕ) → eqb b newline ≡ t → line_length (take (line_length bs) bs) ≡ length (take (line_length bs) bs) →
    line_length (take (cond t 1 (suc (line_length bs))) (b ∷ bs)) ≡ length (take (cond t 1 (suc (line_length bs))) (b ∷ bs))
unfolding line_length
one_by true b bs e h = simp e
one_by false b bs e h = simp e (ap suc h)

pub one_line : (bs : List ℕ) → line_length (take (line_length bs) bs) ≡ length (take (line_length bs) bs)
unfolding line_length
one_line [] = refl
one_line (b ∷ bs) = one_by (eqb b newline) b bs refl (one_line bs)

length_by : (t : Bool) (k m : ℕ) → k ≤ m → cond t 1 (suc k) ≤ suc m
length_by true k m h = omega arith
length_by false k m h = omega arith

pub line_within : (bs : List ℕ) → line_length bs ≤ length bs
unfolding line_length
line_within [] = omega arith
line_within (b ∷ bs) = length_by (eqb b newline) (line_length bs) (length bs) (line_within bs)

some_by : (t : Bool) (k : ℕ) → 0 < cond t 1 (suc k)
some_by true k = omega arith
some_by false k = omega arith

pub line_some : (bs : List ℕ) → 0 < length bs → 0 < line_length bs
unfolding line_length
line_some [] h = absurd (omega arith)
line_some (b ∷ bs) h = some_by (eqb b newline) (line_length bs)

-- by the place of its newline
abbrev is_newline : ℕ → Bool
is_newline b = eqb b newline

place_by : (t : Bool) (k n : ℕ) → cond t 1 (suc (min (k + 1) n)) ≡ min (cond (not t) (1 + k) 0 + 1) (suc n)
place_by true k n = omega arith
place_by false k n = omega arith

length_place : (bs : List ℕ) → line_length bs ≡ min (position_or_len is_newline bs + 1) (length bs)
unfolding line_length
length_place [] = refl
length_place (b ∷ bs) = ap (λ (k : ℕ). cond (eqb b newline) 1 (suc k)) (length_place bs) ∙ place_by (eqb b newline) (position_or_len is_newline bs) (length bs)

found_by : (t : Bool) (k n i : ℕ) → ltb k n ≡ t → cond t (Some k) None ≡ Some i → (i + 1 ≡ min (k + 1) n) × (i < n)
found_by true k n i e h = let same : k ≡ i = cc in let less = ltb-true k n e in (omega arith, omega arith)
found_by false k n i e h = absurd (let z : ◌≡◌ {A = ℕ} 0 1 = cc in omega arith)

whole_by : (t : Bool) (k n : ℕ) → ltb k n ≡ t → cond t (Some k) None ≡ None → n ≡ min (k + 1) n
whole_by true k n e h = absurd (let z : ◌≡◌ {A = ℕ} 0 1 = cc in omega arith)
whole_by false k n e h = let more = ltb-false k n e in omega arith

module _ (bs : List ℕ) (r : Option ℕ) (is : r ≡ position is_newline bs) where
  pub length_found : (i : ℕ) → r ≡ Some i → i + 1 ≡ line_length bs
  length_found i e = (found_by (ltb (position_or_len is_newline bs) (length bs)) _ _ i refl (sym is ∙ e)).0 ∙ sym (length_place bs)

  pub found_inside : (i : ℕ) → r ≡ Some i → i < length bs
  found_inside i e = (found_by (ltb (position_or_len is_newline bs) (length bs)) _ _ i refl (sym is ∙ e)).1

  pub length_whole : r ≡ None → length bs ≡ line_length bs
  length_whole e = whole_by (ltb (position_or_len is_newline bs) (length bs)) _ _ refl (sym is ∙ e) ∙ sym (length_place bs)

-- its last byte
last_byte : (b : ℕ) (bs : List ℕ) → eqb (get_or (b ∷ bs) (length bs) 0) newline ≡ ends_after b bs
last_byte b [] = refl
last_byte b (c ∷ bs) = last_byte c bs

pub last_ended : (bs : List ℕ) → 0 < length bs → eqb (get_or bs (length bs - 1) 0) newline ≡ ends_line bs
last_ended [] h = absurd (omega arith)
last_ended (b ∷ bs) h =
    let e : length (b ∷ bs) - 1 ≡ length bs = omega arith in
    ap (λ (k : ℕ). eqb (get_or (b ∷ bs) k 0) newline) e ∙ last_byte b bs

pub none_ended : (bs : List ℕ) → length bs ≤ 0 → false ≡ ends_line bs
none_ended [] h = refl
none_ended (b ∷ bs) h = absurd (omega arith)

-- no line is left
pub none_left : (rest : List ℕ) (f all : Feed) → eqb (length rest) 0 ≡ true → fed link_bits f rest ≡ all → f ≡ all
unfolding fed
none_left [] f all e h = h
none_left (b ∷ rest) f all e h = absurd (true≢false (sym e ∙ ne_eqb (length (b ∷ rest)) 0 (λ z. omega arith)))

-- one more line of a piece: part is the first line of the rest, and after follows it
module _ (rest part after : List ℕ) (n : ℕ) (is : n ≡ line_length rest) (some : eqb (length rest) 0 ≡ false) (front : part ≡ take n rest) (back : after ≡ drop n rest) where
  pub line_one : line_length part ≡ length part
  line_one = rw (front, is) (one_line rest)

  more : 0 < length rest
  more = let h = eqb-false (length rest) 0 some in omega arith

  pub line_there : length after < length rest
  line_there = omega (arith, line_some rest more, line_within rest, is, ap (λ (l : List ℕ). length l) back, length-drop n rest)

  module _ (f g all : Feed) (here : fed link_bits f rest ≡ all) (line-fed : g ≡ fed link_bits f part) where
    pub next_line_lem : fed link_bits g after ≡ all
    next_line_lem =
        ap (λ (x : Feed). fed link_bits x after) (line-fed ∙ ap (fed link_bits f) front)
        ∙ ap (fed link_bits (fed link_bits f (take n rest))) back
        ∙ sym (fed_append link_bits f (take n rest) (drop n rest))
        ∙ ap (fed link_bits f) (take-append-drop n rest)
        ∙ here

-- ---- the end

-- a text that is not empty, and what is reported of it
torn : (p : Player) (l : List ℕ) (r : Report) → 0 < length l → ((b : ℕ) (t : List ℕ) → r ≡ lastly p (b ∷ t)) → r ≡ lastly p l
torn p [] r h g = absurd (omega arith)
torn p (b ∷ t) r h g = g b t

stopped_last : (r : Report) (d l : List ℕ) → r ≡ lastly (stopped r d) l
unfolding lastly ends
stopped_last r d [] = refl
stopped_last r d (b ∷ l) = refl

module _ (p : Position) (line due : List ℕ) (w : World) where
  pub ends_agree : p.stop ≡ 0 → p.line ≡ 0 → p.due ≡ 0 → report 0 p.lines ≡ reports (feed_at p line due w)
  unfolding feed_at player_at due_in lastly ends
  ends_agree a b c = simp (a, b, c)

  pub ends_due : (k : ℕ) → k ≡ next_line p.lines → p.stop ≡ 0 → p.line ≡ 0 → p.due ≢ 0 → report 1 k ≡ reports (feed_at p line due w)
  unfolding feed_at player_at due_in lastly ends
  ends_due k e a b c = simp (e, a, b, ne_eqb p.due 0 c)

  pub ends_torn : (k : ℕ) → k ≡ next_line p.lines → length line ≡ 64 → p.stop ≡ 0 → p.line ≢ 0 → report 22 k ≡ reports (feed_at p line due w)
  unfolding feed_at player_at lastly
  ends_torn k e size a b =
      let some : 0 < length (take p.line line) = omega (arith, length-take p.line line) in
      simp (e, a) (torn _ (take p.line line) _ some (λ b t. refl))

  pub ends_stopped : (k : ℕ) → k ≡ next_line p.lines → p.stop ≢ 0 → report p.stop k ≡ reports (feed_at p line due w)
  unfolding feed_at player_at
  ends_stopped k e a = simp (e, ne_eqb p.stop 0 a) (stopped_last _ _ _)
