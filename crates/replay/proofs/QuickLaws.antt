-- On a sound player the play as code makes it is the play: a text that is due reads as its line, so it may be compared before it is
-- read, and an access may be made before its line is.
-- Assumes nothing.
use Rattle.std.specs.Prelude.{Option, None, Some}
use Prim.Native.Nat.{ℕ}
use mathlib.Core.Path.{◌≡◌, refl, subst}
use mathlib.Core.Bool.{Bool, true, false, cond}
use mathlib.Core.List.{List, [], ◌∷◌}
use Rattle.word.specs.Word.{Width}
use Rattle.calls.proofs.Cases.{choose}
use Rattle.machine.specs.declared.types.Side.{Side}
use Rattle.machine.specs.declared.types.Step.TheVariants as step
use Rattle.machine.specs.Exec.{World, exec}
use Rattle.access_log.specs.declared.line.Line.{Line}
use Rattle.access_log.specs.declared.line.Line.TheVariants as line
use Rattle.access_log.specs.Line.{bytes_of}
use Rattle.access_log.specs.Text.{same}
use Rattle.access_log.specs.Read.{guess, read_line}
use Rattle.access_log.proofs.FieldLaws.{same_eq}
use Rattle.access_log.proofs.Agreement.{agree}
use Rattle.claims.specs.Numbers.{All, SmallWorld}
use Rattle.replay.specs.Replay.{Player, playing, stopped, report, next_line, due_after, meets, is_busy, makes, opens, judges, played}
use Rattle.replay.specs.Player.{misses, met, made, opened, quick}
use Rattle.replay.proofs.SoundPlayers.{LegalText, Sound, due_legal}

-- ---- a line of the form: whatever is due

module _ (k : ℕ) (text : List ℕ) (l : Line) (reads : read_line text ≡ Some l) where
  met_line : (w : World) (due : List (List ℕ)) → met w due k text ≡ meets w due k text
  unfolding met misses
  met_line w [] = simp reads
  met_line w (d ∷ ds) = simp reads

  made_line : (n : ℕ) (w : World) (s : Side) → made n w k s text ≡ makes n w k s text
  unfolding made
  made_line n w s = simp met_line

-- ---- one that is not of the form: what is due is a legal line's

text_reads : (d : List ℕ) (h : LegalText d) → read_line d ≡ Some h.line
text_reads d h = subst (λ (s : List ℕ). read_line s ≡ Some h.line) h.bytes (agree.written_reads h.line h.legal)

not_due : (d text : List ℕ) → LegalText d → read_line text ≡ None → same d text ≡ false
not_due d text h reads = go (same d text) refl
  where
    go : (b : Bool) → same d text ≡ b → same d text ≡ false
    go true e = cc (same_eq d text e, text_reads d h)
    go false e = e

module _ (k : ℕ) (text : List ℕ) (reads : read_line text ≡ None) where
  met_none : (w : World) (due : List (List ℕ)) → All LegalText due → met w due k text ≡ stopped (report 22 (next_line k)) []
  unfolding met misses
  met_none w [] h = simp reads
  met_none w (d ∷ ds) h = simp (not_due d text h.0 reads, reads)

  made_none : {n : ℕ} → Width n → (w : World) → SmallWorld w → (s : Side) → made n w k s text ≡ stopped (report 22 (next_line k)) []
  unfolding made
  made_none {n} wide w i s =
      let performs = step.Perform s in
      choose (λ (p : Player). p ≡ stopped (report 22 (next_line k)) []) (is_busy w s)
      (met_none _ (due_after (exec n w performs).events) (due_legal wide w i performs tt)) (met_none w [] tt)

-- ---- where nothing is due

opened_line : (n : ℕ) (w : World) (k : ℕ) (text : List ℕ) (l : Line) → read_line text ≡ Some l → same (bytes_of l) text ≡ true →
    opened n w k text l ≡ opens n w k text l
unfolding opened opens
opened_line n w k text line.Header r e = met_line k text _ r w []
opened_line n w k text (line.Access s a seen) r e = made_line k text _ r n w s
opened_line n w k text (line.Answer s number) r e = met_line k text _ r w []
opened_line n w k text (line.PortAnswer s number port) r e = met_line k text _ r w []
opened_line n w k text (line.Call c) r e = simp e

opened_none : {n : ℕ} → Width n → (w : World) → SmallWorld w → (k : ℕ) (text : List ℕ) (l : Line) →
    read_line text ≡ None → same (bytes_of l) text ≡ false → opened n w k text l ≡ stopped (report 22 (next_line k)) []
unfolding opened
opened_none wide w i k text line.Header r e = met_none k text r w [] tt
opened_none wide w i k text (line.Access s a seen) r e = made_none k text r wide w i s
opened_none wide w i k text (line.Answer s number) r e = met_none k text r w [] tt
opened_none wide w i k text (line.PortAnswer s number port) r e = met_none k text r w [] tt
opened_none wide w i k text (line.Call c) r e = simp e

-- ---- every line

opened_read : {n : ℕ} → Width n → (w : World) → SmallWorld w → (k : ℕ) (text : List ℕ) (b : Bool) → same (bytes_of (guess text)) text ≡ b →
    opened n w k text (guess text) ≡ judges n w [] k text (cond b (Some (guess text)) None)
unfolding read_line
opened_read {n} wide w i k text true e = opened_line n w k text (guess text) (simp e) e
opened_read {n} wide w i k text false e = opened_none wide w i k text (guess text) (simp e) e

met_read : (w : World) (d : List ℕ) (ds : List (List ℕ)) → All LegalText (d ∷ ds) → (n k : ℕ) (text : List ℕ) (f : Option Line) → read_line text ≡ f →
    met w (d ∷ ds) k text ≡ judges n w (d ∷ ds) k text f
met_read w d ds h n k text (Some l) r = met_line k text l r w (d ∷ ds)
met_read w d ds h n k text None r = met_none k text r w (d ∷ ds) h

pub quick_played : {n : ℕ} → Width n → (p : Player) → Sound p → (text : List ℕ) → quick n p text ≡ played n p text
unfolding quick played read_line
quick_played wide (playing w [] k) h text = opened_read wide w h.0 k text (same (bytes_of (guess text)) text) refl
quick_played {n} wide (playing w (d ∷ ds) k) h text = met_read w d ds h.1 n k text (read_line text) refl
quick_played wide (stopped r d) h text = refl
