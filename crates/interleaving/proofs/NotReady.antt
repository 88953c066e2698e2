-- A queue that is not ready is empty. Apart from Progress.antt, which rests on it, for the reason in FewAccesses.antt.
-- Assumes nothing.
use mathlib.Core.Path.{◌≡◌, ◌∙◌}
use mathlib.Core.Bool.{false}
use mathlib.Core.List.{List, []}
use Prim.Native.Nat.{ℕ, ◌<◌}
use Rattle.word.specs.Ready.{is_ready}
use Rattle.machine.specs.Exec.{World}
use Rattle.machine.specs.declared.types.Event.{Event}
use Rattle.queue.proofs.Cases.{or_none}
use Rattle.queue.proofs.Claim.{no_bit}
use Rattle.interleaving.specs.Standing.{ready_word}
use Rattle.interleaving.specs.Progress.{ready}
use Rattle.interleaving.proofs.ReadyBits.{bits_at}
use Rattle.interleaving.proofs.Good.{Good}

pub not_ready : {n : ℕ} {w : World} {h : List Event} (k : Good n w h) (r : ℕ) → r < 16 → ready w r ≡ false → k.lists r ≡ []
not_ready {w = w} k r lt e = let b = or_none (is_ready r w.guest.ready) (is_ready r (ready_word w)) e in no_bit k.inv r (bits_at w.guest.ready r lt ∙ b.0) (bits_at (ready_word w) r lt ∙ b.1)
