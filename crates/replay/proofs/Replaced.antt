-- In a log that agrees, another line in place of one that is due, or another access of the same side, differs there; and so does
-- any other line right after a mask's.
-- Assumes nothing.
use Rattle.std.specs.Prelude.{Option, None, Some, Result, Ok, Err}
use Prim.Native.Nat.{ℕ, ◌+◌, ◌≤◌, ◌<◌}
use native.Mathlib.Omega.{arith}
use native.Mathlib.Nat.{zero-add, add_assoc}
use mathlib.Core.Path.{◌≡◌, refl, sym, ap, ◌∙◌, subst}
use mathlib.Core.Logic.{◌≢◌}
use mathlib.Core.Bool.{Bool, true, false, cond}
use mathlib.Core.List.{List, [], ◌∷◌, ◌++◌, map}
use lib.ListN.{length}
use Rattle.word.specs.declared.Port.{Port}
use Rattle.calls.specs.declared.types.Made.{Made}
use Rattle.calls.specs.declared.types.Refused.{Refused}
use Rattle.calls.specs.Guest.{mask_of}
use Rattle.machine.specs.declared.types.Side.{Side}
use Rattle.machine.specs.declared.types.Step.TheVariants as step
use Rattle.machine.specs.Exec.{World, step_of, guest_step, perform_masking, perform_mask, guest_start_of, advance_of, exec}
use Rattle.access_log.specs.declared.line.LoggedCall.TheVariants.{Mask}
use Rattle.access_log.specs.declared.line.Line.{Line}
use Rattle.access_log.specs.declared.line.Line.TheVariants as line
use Rattle.access_log.specs.Line.{bytes_of, Legal}
use Rattle.access_log.specs.Event.{line_of}
use Rattle.access_log.specs.Read.{guess, read_line, kind_of}
use Rattle.access_log.specs.Text.{same}
use Rattle.access_log.proofs.FieldLaws.{same_eq}
use Rattle.access_log.proofs.Agreement.{agree}
use Rattle.claims.specs.Numbers.{All}
use Rattle.replay.specs.Replay.{step_of_call, adds, ran, Player, playing, stopped, report, next_line, due_after, is_busy, meets, makes, opens, moves, judges, played, played_all, starts, ends, replay}
use Rattle.replay.specs.Claims.{log_text, most_lines, SameSide, MayReplace, OtherDiffers, MaskDiffers}
use Rattle.replay.proofs.PlayLaws.{next_line_lem, stopped_stays, over, over_append, replay_over}
use Rattle.access_log.specs.declared.read.Kind.{Kind}
use Rattle.access_log.specs.declared.read.Kind.TheVariants as kind
use Rattle.replay.proofs.KindLaws.{kind_kept, mask_kept, read_guess}
use Rattle.replay.proofs.FairPlayers.{is_call, NoCall, no_call, Fair, played_fair, over_fair, goes, agreed_goes}

-- ---- the line due, and another in its place

never : false ≡ true → ⊥
never e = let z : ◌≡◌ {A = ℕ} 0 1 = ap (λ (b : Bool). cond b 1 0) e in omega arith

-- stopped at the line after k, where something else was due
abbrev Differs : ℕ → Player → Type 0
Differs k p = (d : List ℕ) × (p ≡ stopped (report 1 (next_line k)) d)

meets_by : (w : World) (d : List ℕ) (ds : List (List ℕ)) (k : ℕ) (text other : List ℕ) (a b : Bool) → same d text ≡ a → same d other ≡ b →
    goes (cond a (playing w ds (next_line k)) (stopped (report 1 (next_line k)) d)) ≡ true → other ≢ text →
    Differs k (cond b (playing w ds (next_line k)) (stopped (report 1 (next_line k)) d))
meets_by w d ds k text other true true s t g h = absurd (h (sym (same_eq d other t) ∙ same_eq d text s))
meets_by w d ds k text other true false s t g h = (d, refl)
meets_by w d ds k text other false b s t g h = absurd (never g)

meets_differs : (w : World) (due : List (List ℕ)) (k : ℕ) (text other : List ℕ) → goes (meets w due k text) ≡ true → other ≢ text →
    Differs k (meets w due k other)
meets_differs w [] k text other g h = absurd (never g)
meets_differs w (d ∷ ds) k text other g h = meets_by w d ds k text other (same d text) (same d other) refl refl g h

-- ---- an access line, and another of its side

makes_by : (w v : World) (due : List (List ℕ)) (k : ℕ) (text other : List ℕ) (b : Bool) → goes (cond b (meets v due k text) (meets w [] k text)) ≡ true →
    other ≢ text → Differs k (cond b (meets v due k other) (meets w [] k other))
makes_by w v due k text other true g h = meets_differs v due k text other g h
makes_by w v due k text other false g h = absurd (never g)

-- the same as `MayReplace`, by the kind of what is replaced
abbrev ByKind : Line → Kind → Type 0
ByKind m kind.Header = Unit {0}
ByKind m (kind.Access s) = SameSide s m
ByKind m kind.Answer = Unit {0}
ByKind m kind.Call = ⊥

by_kind : (l m : Line) → MayReplace l m → ByKind m (kind_of l)
by_kind line.Header m r = r
by_kind (line.Access s a seen) m r = r
by_kind (line.Answer s number) m r = r
by_kind (line.PortAnswer s number port) m r = r
by_kind (line.Call c) m r = r

opens_side : (n : ℕ) (w : World) (k : ℕ) (text : List ℕ) (s : Side) (m : Line) → SameSide s m → opens n w k text m ≡ makes n w k s text
unfolding opens
opens_side n w k text s line.Header h = absurd h
opens_side n w k text s (line.Access t a seen) h = ap (λ (u : Side). makes n w k u text) (sym h)
opens_side n w k text s (line.Answer t number) h = absurd h
opens_side n w k text s (line.PortAnswer t number port) h = absurd h
opens_side n w k text s (line.Call c) h = absurd h

opens_differs : (n : ℕ) (w : World) (k : ℕ) (text : List ℕ) (l m : Line) → goes (opens n w k text l) ≡ true → ByKind m (kind_of l) → bytes_of m ≢ text →
    Differs k (opens n w k (bytes_of m) m)
unfolding opens
opens_differs n w k text line.Header m g r h = absurd (never g)
opens_differs n w k text (line.Access s a seen) m g r h =
    subst (Differs k) (sym (opens_side n w k (bytes_of m) s m r))
    (makes_by w (exec n w (step.Perform s)).world (due_after (exec n w (step.Perform s)).events) k text (bytes_of m) (is_busy w s) g h)
opens_differs n w k text (line.Answer s number) m g r h = absurd (never g)
opens_differs n w k text (line.PortAnswer s number port) m g r h = absurd (never g)
opens_differs n w k text (line.Call c) m g r h = absurd r

-- ---- a line, and another in its place

-- where something is due, any other
abbrev MayStand : List (List ℕ) → Line → Line → Type 0
MayStand [] l m = MayReplace l m
MayStand (d ∷ ds) l m = Unit {0}

stands : (due : List (List ℕ)) (l m : Line) → MayReplace l m → MayStand due l m
stands [] l m r = r
stands (d ∷ ds) l m r = tt

judges_differs : (n : ℕ) (w : World) (due : List (List ℕ)) (k : ℕ) (l m : Line) (f : Option Line) → read_line (bytes_of l) ≡ f →
    goes (judges n w due k (bytes_of l) f) ≡ true → MayStand due l m → bytes_of m ≢ bytes_of l → Differs k (moves n w due k (bytes_of m) m)
judges_differs n w [] k l m (Some x) e g r h =
    opens_differs n w k (bytes_of l) x m g (subst (ByKind m) (sym (kind_kept l) ∙ ap kind_of (read_guess (bytes_of l) x e)) (by_kind l m r)) h
judges_differs n w (d ∷ ds) k l m (Some x) e g r h = meets_differs w (d ∷ ds) k (bytes_of l) (bytes_of m) g h
judges_differs n w [] k l m None e g r h = absurd (never g)
judges_differs n w (d ∷ ds) k l m None e g r h = absurd (never g)

played_differs : (n : ℕ) (w : World) (due : List (List ℕ)) (k : ℕ) (l m : Line) → goes (played n (playing w due k) (bytes_of l)) ≡ true →
    MayStand due l m → Legal m → bytes_of m ≢ bytes_of l → Differs k (played n (playing w due k) (bytes_of m))
unfolding played
played_differs n w due k l m g r legal h = rw (agree.written_reads m legal) (judges_differs n w due k l m (read_line (bytes_of l)) refl g r h)

stays : (n k : ℕ) (p : Player) (texts : List (List ℕ)) → Differs k p → ends (played_all n p texts) ≡ report 1 (next_line k)
unfolding ends
stays n k p texts h = ap (λ (q : Player). ends (played_all n q texts)) h.1 ∙ ap ends (stopped_stays n _ h.0 texts)

replaced : (n j k : ℕ) (w : World) (due : List (List ℕ)) (i : ℕ) (l m : Line) (rest : List (List ℕ)) → Fair j (playing w due i) → j < most_lines →
    ends (played_all n (played n (playing w due i) (bytes_of l)) rest) ≡ report 0 k → MayStand due l m → Legal m → bytes_of m ≢ bytes_of l →
    ends (played_all n (played n (playing w due i) (bytes_of m)) rest) ≡ report 1 (j + 1)
replaced n j k w due i l m rest fair small e r legal h =
    stays n i (played n (playing w due i) (bytes_of m)) rest
    (played_differs n w due i l m
    (agreed_goes n (j + 1) k (played n (playing w due i) (bytes_of l)) rest (played_fair n j (playing w due i) (bytes_of l) small fair) e) r legal h)
    ∙ ap (report 1) (ap next_line fair.0 ∙ next_line_lem j small)

-- ---- in a whole log

after_before : (n entries words : ℕ) (before : List Line) → length before ≤ most_lines → Fair (length before) (over n (starts entries words) before)
after_before n entries words before h =
    subst (λ (j : ℕ). Fair j (over n (starts entries words) before)) (zero-add (length before))
    (over_fair n 0 (starts entries words) before (omega arith) (refl, (no_call line.Header refl, tt)))

replay_after : (n entries words : ℕ) (before rest : List Line) →
    replay n entries words (log_text (before ++ rest)) ≡ ends (over n (over n (starts entries words) before) rest)
replay_after n entries words before rest = replay_over n entries words (before ++ rest) ∙ ap ends (over_append n (starts entries words) before rest)

other_by : (n j k : ℕ) (p : Player) (l m : Line) (rest : List (List ℕ)) → Fair j p → j < most_lines →
    ends (played_all n (played n p (bytes_of l)) rest) ≡ report 0 k → MayReplace l m → Legal m → bytes_of m ≢ bytes_of l →
    ends (played_all n (played n p (bytes_of m)) rest) ≡ report 1 (j + 1)
unfolding played
other_by n j k (playing w due i) l m rest fair small e r legal h = replaced n j k w due i l m rest fair small e (stands due l m r) legal h
other_by n j k (stopped r d) l m rest fair small e x legal h = absurd (never (agreed_goes n j k (stopped r d) rest fair e))

pub other_differs : OtherDiffers
unfolding played_all
other_differs n entries words before l m after k e legal h r small =
    replay_after n entries words before (m ∷ after)
    ∙ other_by n (length before) k (over n (starts entries words) before) l m (map bytes_of after) (after_before n entries words before (omega arith)) small
    (sym (replay_after n entries words before (l ∷ after)) ∙ e) r legal h

-- ---- after a mask's line

-- something is due
abbrev Waits : Player → Type 0
Waits (playing w [] k) = ⊥
Waits (playing w (d ∷ ds) k) = Unit {0}
Waits (stopped r d) = ⊥

mask_waits : (k : ℕ) (w v : World) (x : Result Made Refused) → Waits (playing v (due_after (step_of (guest_step w (perform_masking w.guest w.memory x))).events) k)
unfolding due_after line_of
mask_waits k w v (Err r) = tt
mask_waits k w v (Ok y) = tt

mask_opens : (n : ℕ) (w : World) (k : ℕ) (text : List ℕ) (p : Port) → Waits (opens n w k text (line.Call (Mask p)))
unfolding opens adds ran step_of_call advance_of guest_start_of perform_mask
mask_opens n w k text p = mask_waits (next_line k) w (exec n w (step_of_call (Mask p))).world (mask_of n p w.guest.words)

-- no call's line is due
meets_no_call : (w : World) (d : List ℕ) (ds : List (List ℕ)) (k : ℕ) (text : List ℕ) (b : Bool) → same d text ≡ b → NoCall d →
    is_call (kind_of (guess text)) ≡ true → goes (cond b (playing w ds (next_line k)) (stopped (report 1 (next_line k)) d)) ≡ true → ⊥
meets_no_call w d ds k text true s h c g = never (sym h ∙ ap (λ (t : List ℕ). is_call (kind_of (guess t))) (same_eq d text s) ∙ c)
meets_no_call w d ds k text false s h c g = never g

mask_judged : (n : ℕ) (w : World) (due : List (List ℕ)) (k : ℕ) (p : Port) (f : Option Line) → read_line (bytes_of (line.Call (Mask p))) ≡ f → All NoCall due →
    goes (judges n w due k (bytes_of (line.Call (Mask p))) f) ≡ true → Waits (judges n w due k (bytes_of (line.Call (Mask p))) f)
mask_judged n w [] k p (Some l) e h g =
    let text = bytes_of (line.Call (Mask p)) in
    subst (λ (x : Line). Waits (opens n w k text x)) (sym (mask_kept p) ∙ read_guess text l e) (mask_opens n w k text _)
mask_judged n w (d ∷ ds) k p (Some l) e h g =
    let text = bytes_of (line.Call (Mask p)) in
    absurd (meets_no_call w d ds k text (same d text) refl h.0 (ap is_call (kind_kept (line.Call (Mask p)))) g)
mask_judged n w [] k p None e h g = absurd (never g)
mask_judged n w (d ∷ ds) k p None e h g = absurd (never g)

waiting_by : (n j k : ℕ) (p : Player) (l m : Line) (rest : List (List ℕ)) → Waits p → Fair j p → j < most_lines →
    ends (played_all n (played n p (bytes_of l)) rest) ≡ report 0 k → Legal m → bytes_of m ≢ bytes_of l →
    ends (played_all n (played n p (bytes_of m)) rest) ≡ report 1 (j + 1)
waiting_by n j k (playing w [] i) l m rest x fair small e legal h = absurd x
waiting_by n j k (playing w (d ∷ ds) i) l m rest x fair small e legal h = replaced n j k w (d ∷ ds) i l m rest fair small e tt legal h
waiting_by n j k (stopped r d) l m rest x fair small e legal h = absurd x

mask_by : (n j k : ℕ) (q : Player) (p : Port) (l m : Line) (rest : List (List ℕ)) → Fair j q → j + 1 < most_lines →
    ends (played_all n (played n (played n q (bytes_of (line.Call (Mask p)))) (bytes_of l)) rest) ≡ report 0 k → Legal m → bytes_of m ≢ bytes_of l →
    ends (played_all n (played n (played n q (bytes_of (line.Call (Mask p)))) (bytes_of m)) rest) ≡ report 1 (j + 2)
unfolding played played_all
mask_by n j k (playing w due i) p l m rest fair small e legal h =
    let text = bytes_of (line.Call (Mask p)) in
    let next = played n (playing w due i) text in
    let ahead : Fair (j + 1) next = played_fair n j (playing w due i) text (omega arith) fair in
    waiting_by n (j + 1) k next l m rest
    (mask_judged n w due i p (read_line text) refl fair.1 (agreed_goes n (j + 1) k next (bytes_of l ∷ rest) ahead e)) ahead small e legal h
    ∙ ap (report 1) (add_assoc j 1 1)
mask_by n j k (stopped r d) p l m rest fair small e legal h = absurd (never (agreed_goes n j k (stopped r d) rest fair e))

pub mask_differs : MaskDiffers
unfolding played_all
mask_differs n entries words before l m after k p e legal h small =
    replay_after n entries words before (line.Call (Mask (record { 0 = p })) ∷ m ∷ after)
    ∙ mask_by n (length before) k (over n (starts entries words) before) (record { 0 = p }) l m (map bytes_of after)
    (after_before n entries words before (omega arith)) small
    (sym (replay_after n entries words before (line.Call (Mask (record { 0 = p })) ∷ l ∷ after)) ∙ e) legal h
