-- The invariant of a world: that of its queues, the sizes of its lists, what its calls under way keep, and the order of
-- what was taken in and given out.
-- Assumes nothing.
use mathlib.Core.Path.{◌≡◌}
use mathlib.Core.Bool.{Bool, true, false}
use mathlib.Core.List.{List, ◌++◌}
use Prim.Native.Nat.{ℕ, suc, ◌*◌, ◌^◌, ◌≤◌, ◌<◌}
use lib.ListN.{length, get_or}
use Rattle.word.specs.declared.Flag.TheVariants.{Linked}
use Rattle.word.specs.Word.{has}
use Rattle.calls.specs.declared.types.Stage.{Stage}
use Rattle.calls.specs.declared.types.Stage.TheVariants as stage
use Rattle.calls.specs.declared.types.Call as calls
use Rattle.calls.specs.Records.{is_free}
use Rattle.machine.specs.Exec.{World, Advanced, world_after, step_of}
use Rattle.machine.specs.declared.types.Event.{Event}
use Rattle.queue.specs.Model.{Call, GuestCall, alone}
use Rattle.queue.specs.Budget.{made_by}
use Rattle.queue.specs.Invariant.{Inv}
use Rattle.interleaving.specs.Held.{is_linking}
use Rattle.interleaving.specs.Bounds.{Bounds}
use Rattle.interleaving.proofs.View.{view_of, call_of, guest_call_of, clears_of}
use Rattle.interleaving.proofs.HistoryLaws.{InOrder}

-- the array fits in LINK and in the lent words (R4, every access); its words have 32 bits, so that a cas compares their
-- fields (R4, clear_mask); control block, tails and heads have a place for each queue
pub record Sizes (n pages : ℕ) (words control queues guests : List ℕ) : Type 0 where
  pub array : 1024 * pages ≤ 2 ^ n
  pub lent : 2 ^ n ≤ length words
  pub small : (p : ℕ) → p < 1024 * pages → get_or words p 0 < 2 ^ 32
  pub block : length control ≡ 18
  pub tails : length queues ≡ 16
  pub heads : length guests ≡ 16

abbrev is_clear_busy : Stage → Bool
is_clear_busy stage.First = false
is_clear_busy stage.R2 = false
is_clear_busy stage.R3 = false
is_clear_busy stage.R4 = false
is_clear_busy stage.SetBusy = false
is_clear_busy stage.ClearBusy = true
is_clear_busy stage.R5 = false
is_clear_busy stage.R6 = false

-- the hypervisor's call, with a ledger of so many entries: its port has one (no 14); its queue is one of the sixteen; R4's
-- word has 32 bits; ClearBusy's has no LINKED (no 2); only a raise or unmask is past its first access
pub record Fit (entries : ℕ) (c : calls.Call) : Type 0 where
  pub entry : is_free c.owner ≡ false → c.port.0 < entries
  pub queue : c.queue.0 < 16
  pub word : c.word < 2 ^ 32
  pub unlinked : is_clear_busy c.stage ≡ true → has Linked c.word ≡ false
  pub linking : is_linking c.owner ≡ false → c.stage ≡ stage.First

-- c and g are the hypervisor's call and the service under way, as the queue level has them
pub record Core (n : ℕ) (w : World) (c : Call) (g : GuestCall) (h : List Event) : Type 0 where
  pub lists : ℕ → List ℕ
  pub inv : Inv (view_of n w) c (alone g) (clears_of n w) lists
  pub sizes : Sizes n w.domain.pages w.memory.words w.memory.block w.domain.tails w.guest.heads
  pub fit : Fit (length w.ledger) w.domain.call
  pub count : w.domain.call.count ≤ suc (made_by c)
  pub guest_queue : w.guest.call.queue.0 < 16
  pub clear_word : w.guest.clear.word < 2 ^ 32
  pub order : InOrder h lists

abbrev pub Good : ℕ → World → List Event → Type 0
Good n w h = Core n w (call_of n w.domain.call) (guest_call_of w.guest.call) h

-- a step keeps the invariant, and its events their bounds
pub record Kept (n : ℕ) (a : Advanced) (h : List Event) : Type 0 where
  pub good : Good n (world_after a) (h ++ (step_of a).events)
  pub bounds : Bounds (step_of a).events
