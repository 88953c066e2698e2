-- However a log is cut into pieces, its report is that of the whole: pieces fed in turn are their bytes fed in turn, and those come to
-- the lines that they make.
-- Assumes nothing.
use Prim.Native.Nat.{ℕ}
use mathlib.Core.Path.{◌≡◌, refl, sym, ap, ◌∙◌}
use mathlib.Core.Bool.{Bool, true, false}
use mathlib.Core.List.{List, [], ◌∷◌, ◌++◌, append_assoc}
use lib.ListN.{take}
use lib.Dec.{eqb}
use borrow.Author.Tests.{eqb-true}
use Rattle.word.specs.Word.{Width}
use Rattle.access_log.specs.Line.{newline}
use Rattle.replay.specs.declared.player.Report.{Report}
use Rattle.replay.specs.Replay.{Player, playing, stopped, played, played_all, lines_of, starts, ends}
use Rattle.replay.specs.Player.{Feed, feed, quick, kept, line_ended, fed_byte, fed, lastly, reports}
use Rattle.replay.specs.Claims.{fed_pieces, joined, PiecesPlayed}
use Rattle.replay.proofs.FeedLaws.{fed_append}
use Rattle.replay.proofs.SoundPlayers.{Sound, starts_sound, played_sound}
use Rattle.replay.proofs.QuickLaws.{quick_played}
use Rattle.replay.proofs.OpenLines.{Open, open_more, open_cut, open_last, open_unread, kept_front, front_played}

-- ---- pieces are their bytes

fed_joined : (n : ℕ) (f : Feed) (pieces : List (List ℕ)) → fed_pieces n f pieces ≡ fed n f (joined pieces)
unfolding fed_pieces joined fed
fed_joined n f [] = refl
fed_joined n f (piece ∷ pieces) = fed_joined n (fed n f piece) pieces ∙ sym (fed_append n f piece (joined pieces))

-- ---- a player that stopped stays

stays_fed : (n : ℕ) (r : Report) (d l text : List ℕ) → reports (fed n (feed (stopped r d) l) text) ≡ r
unfolding fed fed_byte lastly ends
stays_fed n r d [] [] = refl
stays_fed n r d (b ∷ l) [] = refl
stays_fed n r d l (b ∷ text) = stays_fed n r d l text

stays_played : (n : ℕ) (r : Report) (d : List ℕ) (texts : List (List ℕ)) → ends (played_all n (stopped r d) texts) ≡ r
unfolding played_all played ends
stays_played n r d [] = refl
stays_played n r d (text ∷ texts) = stays_played n r d texts

-- ---- bytes are lines

abbrev Played : ℕ → Player → List ℕ → List ℕ → Type 0
Played n p l text = reports (fed n (feed p (take 64 l)) text) ≡ ends (played_all n p (lines_of (l ++ text)))

-- the next line starts, or the player stopped
next_line_lem : (n : ℕ) (p : Player) (l text : List ℕ) → Played n p [] text → reports (fed n (line_ended p l) text) ≡ ends (played_all n p (lines_of text))
next_line_lem n (playing w due k) l text h = h
next_line_lem n (stopped r d) l text h = stays_fed n r d l text ∙ sym (stays_played n r d (lines_of text))

line_played : {n : ℕ} → Width n → (p : Player) → Sound p → (l : List ℕ) → quick n p (kept (take 64 l) newline) ≡ played n p (l ++ newline ∷ [])
line_played {n} wide p h l = quick_played wide p h (kept (take 64 l) newline) ∙ ap (played n p) (kept_front l newline) ∙ front_played n p (l ++ newline ∷ [])

-- the log ends: an open line is not of the form
end_played : (n : ℕ) (p : Player) (l : List ℕ) → Open l → Played n p l []
unfolding fed lastly lines_of played_all played ends
end_played n (playing w due k) [] o = refl
end_played n (playing w due k) (b ∷ l) o =
    sym (ap (λ (texts : List (List ℕ)). ends (played_all n (playing w due k) texts)) (open_last b l o) ∙ simp (open_unread (b ∷ l) o))
end_played n (stopped r d) l o = stays_fed n r d (take 64 l) [] ∙ sym (stays_played n r d (lines_of (l ++ [])))

-- one byte more, where the bytes after it come to their lines
module _ {n : ℕ} (wide : Width n) (l text : List ℕ) (o : Open l) (rest : (p : Player) → Sound p → (m : List ℕ) → Open m → Played n p m text) where
  newline_played : (p : Player) → Sound p →
      reports (fed n (line_ended (quick n p (kept (take 64 l) newline)) (kept (take 64 l) newline)) text) ≡ ends (played_all n p (lines_of (l ++ newline ∷ text)))
  unfolding played_all
  newline_played p h =
      let ended = l ++ newline ∷ [] in
      simp (line_played wide p h l, open_cut l text o)
      (next_line_lem n (played n p ended) (kept (take 64 l) newline) text (rest (played n p ended) (played_sound wide p ended h) [] tt))

  other_played : (p : Player) → Sound p → (b : ℕ) → eqb b newline ≡ false →
      reports (fed n (feed p (kept (take 64 l) b)) text) ≡ ends (played_all n p (lines_of (l ++ b ∷ text)))
  other_played p h b e = simp kept_front (rest p h (l ++ b ∷ []) (open_more l b o e) ∙ simp append_assoc)

  byte_played : (p : Player) → Sound p → (b : ℕ) (t : Bool) → eqb b newline ≡ t → Played n p l (b ∷ text)
  unfolding fed fed_byte
  byte_played (playing w due k) h b true e = simp (eqb-true b newline e) (newline_played (playing w due k) h)
  byte_played (playing w due k) h b false e = simp e (other_played (playing w due k) h b e)
  byte_played (stopped r d) h b t e = stays_fed n r d (take 64 l) text ∙ sym (stays_played n r d (lines_of (l ++ b ∷ text)))

bytes_played : {n : ℕ} → Width n → (text : List ℕ) (p : Player) → Sound p → (l : List ℕ) → Open l → Played n p l text
bytes_played {n} wide [] p h l o = end_played n p l o
bytes_played wide (b ∷ text) p h l o = byte_played wide l text o (bytes_played wide text) p h b (eqb b newline) refl

pub pieces_played : PiecesPlayed
pieces_played n wide entries words pieces =
    ap reports (fed_joined n (feed (starts entries words) []) pieces)
    ∙ bytes_played wide (joined pieces) (starts entries words) (starts_sound entries words) [] tt
