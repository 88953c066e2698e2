-- What holds of the table after any list of orders. The theorem `cable_claims` of proofs/ proves this record. n is the number of link bits.
-- Assumes nothing.
use Rattle.std.specs.Prelude.{ℕ, ◌≡◌, true, false, List, ◌≢◌, length}
use Rattle.machine.specs.declared.types.Step.{Step}
use Rattle.cables.specs.Table.{Slot, end, domain_of, port_of, holds, slot_of, taken, Single}
use Rattle.cables.specs.Claims.{fresh}
use Rattle.fence.specs.System.{System, Order, Cut, Answered, Works, refusal_at, act, falls, after, run}

-- both ends of every cable pass their ports' own refusals: they are bound ports
pub record Bound (n : ℕ) (σ : System) : Type 0 where
  pub one : (i : ℕ) → holds (slot_of σ.cables i) ≡ true → refusal_at n σ (domain_of (slot_of σ.cables i).one) (port_of (slot_of σ.cables i).one) ≡ 0
  pub two : (i : ℕ) → holds (slot_of σ.cables i) ≡ true → refusal_at n σ (domain_of (slot_of σ.cables i).two) (port_of (slot_of σ.cables i).two) ≡ 0

-- link bits up to twenty, as an end has room for
pub record CableClaims (n : ℕ) : Type 0 where
  -- each end belongs to at most one cable
  pub single : (σ : System) (os : List Order) → Single σ.cables → Single (run n σ os).cables
  -- after a cut that answered 0, and as a close's ledger change falls, no cable has that end
  pub cut : (σ : System) (d p i : ℕ) (t : List Slot) → act n σ (Cut d p) ≡ Answered 0 i t → taken (after n σ (act n σ (Cut d p))).cables (end d p) ≡ false
  pub closed : (σ : System) (d : ℕ) (s : Step) → falls n (σ.worlds d) s ≢ 0 → taken (after n σ (Works d s)).cables (end d (falls n (σ.worlds d) s)) ≡ false
  -- every end is a bound port, if it was so before: from a fresh table, with any records and ledgers, it always is
  pub bound : (σ : System) (os : List Order) → Bound n σ → Bound n (run n σ os)
  pub fresh_bound : (σ : System) (os : List Order) → σ.cables ≡ fresh → Bound n (run n σ os)
  -- the table keeps its size
  pub size : (σ : System) (os : List Order) → length (run n σ os).cables ≡ length σ.cables
