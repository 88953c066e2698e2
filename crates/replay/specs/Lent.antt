-- What code's struct of lent references stands for, and what a function leaves of it.
-- Assumes nothing.
use Rattle.std.specs.Prelude.{ℕ, ◌≡◌, Option}
use Rattle.word.specs.Word.{link_bits}
use Rattle.machine.specs.declared.types.Side.{Side}
use Rattle.machine.specs.declared.types.Side.TheVariants as side
use Rattle.machine.specs.declared.types.Start.{Start}
use Rattle.machine.specs.Exec.{World}
use Rattle.evtchn_fifo.specs.Encoded.{EncodedNext, wrote, carried}
use Rattle.evtchn_fifo.specs.Hypervisor.{reply_bytes, due_bytes}
use Rattle.evtchn_fifo.specs.ClearMask.{guest_reply_bytes, guest_due_bytes}
use Rattle.exported.specs.Run.{start_bytes}
use Rattle.replay.specs.declared.player.due.Due.{Due}
use Rattle.replay.specs.declared.player.lent.Lent.{Lent}
use Rattle.replay.specs.State.{world_in, due_lines, result_due}

abbrev pub world_lent : Lent → World
world_lent a = world_in a.domain.now a.ledger.now a.guest.now a.words.now a.block.now

-- each field is still the same reference of the host
pub record KeepsReferences (a b : Lent) : Type 0 where
  pub domain : b.domain.ghost_name ≡ a.domain.ghost_name
  pub ledger : b.ledger.ghost_name ≡ a.ledger.ghost_name
  pub guest : b.guest.ghost_name ≡ a.guest.ghost_name
  pub words : b.words.ghost_name ≡ a.words.ghost_name
  pub block : b.block.ghost_name ≡ a.block.ghost_name
  pub due : b.due.ghost_name ≡ a.due.ghost_name

-- the access for which a side's call waits, or an answer
abbrev pub waits_for : Side → Lent → EncodedNext
waits_for side.Hypervisor a = due_bytes link_bits a.domain.now
waits_for side.Guest a = guest_due_bytes link_bits a.guest.now

-- a side's reply with the word seen: x, and the bytes after it
abbrev pub Replied : Side → Lent → ℕ → EncodedNext → Lent → Type 0
Replied side.Hypervisor a seen x b =
    (carried x b.domain.now b.ledger.now ≡ reply_bytes link_bits a.domain.now a.ledger.now seen) × (b.guest.now ≡ a.guest.now) × (b.words.now ≡ a.words.now) × (b.block.now ≡ a.block.now) × (b.due.now ≡ a.due.now)
Replied side.Guest a seen x b =
    (wrote x b.guest.now ≡ guest_reply_bytes link_bits a.guest.now seen) × (b.domain.now ≡ a.domain.now) × (b.ledger.now ≡ a.ledger.now) × (b.words.now ≡ a.words.now) × (b.block.now ≡ a.block.now) × (b.due.now ≡ a.due.now)

-- a start of a call of the hypervisor: what is due, and the bytes after it
pub record Started (a : Lent) (s : Start) (due : Option Due) (b : Lent) : Type 0 where
  pub due_is : due_lines due b.due.now ≡ result_due side.Hypervisor (start_bytes link_bits a.domain.now a.ledger.now s).next
  pub domain : b.domain.now ≡ (start_bytes link_bits a.domain.now a.ledger.now s).record_bytes
  pub ledger : b.ledger.now ≡ (start_bytes link_bits a.domain.now a.ledger.now s).ledger_bytes
  pub guest : b.guest.now ≡ a.guest.now
  pub words : b.words.now ≡ a.words.now
  pub block : b.block.now ≡ a.block.now
