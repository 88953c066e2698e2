-- Demands 1 and 3 and T-10 for each domain by itself, from its own list of steps. n is the number of link bits.
-- Assumes nothing.
use Prim.Native.Nat.{ℕ}
use mathlib.Core.Path.{◌≡◌, refl, sym, ap, ◌∙◌, subst}
use mathlib.Core.List.{List, [], ◌∷◌, ◌++◌}
use Rattle.word.specs.Word.{Width, link_bits, link_bits-width}
use Rattle.calls.specs.Records.{fresh_domain, fresh_guest}
use Rattle.calls.specs.Claims.{Side, hypervisor_side, guest_side, clear_side, Counting, run_one, run as run_acts}
use Rattle.machine.specs.declared.types.Step.{Step}
use Rattle.machine.specs.Exec.{World, Advanced, world_after, exec, exec_all}
use Rattle.machine.proofs.StepActs.{Acted, by_hypervisor, by_guest, by_mask, acted}
use Rattle.claims.specs.Reach.{Bounded, BoundedFrom, array_words, call_limit, service_limit, clear_limit}
use Rattle.claims.proofs.HypervisorReach.{calls_bounded}
use Rattle.claims.proofs.GuestReach.{services_bounded, clears_bounded}
use Rattle.interleaving.specs.Demand3.{Demand3}
use Rattle.interleaving.specs.Lengths.{LengthsOfCalls}
use Rattle.interleaving.specs.Progress.{ServedInTurn}
use Rattle.interleaving.proofs.Theorem.{demand3}
use Rattle.interleaving.proofs.Lengths.{lengths_of_calls}
use Rattle.interleaving.proofs.Progress.{served_in_turn}
use Rattle.fence.specs.Domains.{own_list, Within, EachDemand1, EachDemand3, EachLengths, EachServed}
use Rattle.fence.proofs.Projection.{projects}

-- ---- a list of steps as a list of each side's acts

module _ {Record Request : Type 0} (side : Side Record Request) (fresh : Record) where
  abbrev start : Counting Record
  start = record { state = fresh; named = 0 }

  record Reached (r : Record) : Type 0 where
    acts : List Request
    same : (run_acts side start acts).state ≡ r

  run_more : (s : Counting Record) (acts : List Request) (a : Request) →
      run_acts side s (acts ++ a ∷ []) ≡ run_one side (run_acts side s acts) a
  run_more s [] a = refl
  run_more s (b ∷ acts) a = run_more (run_one side s b) acts a

  more : {r : Record} → Reached r → (a : Request) → Reached (side.after r a)
  more k a = record {
    acts = k.acts ++ a ∷ [];
    same = ap (λ s. s.state) (run_more start k.acts a) ∙ ap (λ r. side.after r a) k.same;
  }

  abbrev named_of : {r : Record} → Reached r → ℕ
  named_of k = (run_acts side start k.acts).named

  bounded_at : (words : Record → ℕ) (limit : ℕ) → BoundedFrom side words limit fresh → {r : Record} (k : Reached r) →
      Bounded side words limit (record { state = r; named = named_of k })
  bounded_at words limit b k = subst (λ r. Bounded side words limit (record { state = r; named = named_of k })) k.same (b k.acts)

module _ (n : ℕ) where
  -- the guest's acts, counted by its services and by its clear_masks
  record AllReached (w : World) : Type 0 where
    hypervisor : Reached (hypervisor_side n) fresh_domain w.domain
    guest : Reached (guest_side n) fresh_guest w.guest
    clears : Reached (clear_side n) fresh_guest w.guest

  step_reached : (w : World) → AllReached w → {s : Step} {t : Advanced} → Acted n w s t → AllReached (world_after t)
  step_reached w k (by_hypervisor act access m same reply h none made) =
      record { hypervisor = more (hypervisor_side n) fresh_domain k.hypervisor act; guest = k.guest; clears = k.clears }
  step_reached w k (by_guest act access reply h none) =
      record { hypervisor = k.hypervisor; guest = more (guest_side n) fresh_guest k.guest act; clears = more (clear_side n) fresh_guest k.clears act }
  step_reached w k (by_mask access other reply h none) = record { hypervisor = k.hypervisor; guest = k.guest; clears = k.clears }

  steps_reached : (w : World) (ss : List Step) → AllReached w → AllReached (exec_all n w ss).world
  unfolding exec_all
  steps_reached w [] k = k
  steps_reached w (s ∷ ss) k = steps_reached (exec n w s).world ss (step_reached w k (acted n w s))

  within : {w : World} → AllReached w → Within n w
  within k = record {
    named = named_of (hypervisor_side n) fresh_domain k.hypervisor;
    calls = bounded_at (hypervisor_side n) fresh_domain array_words call_limit (calls_bounded n) k.hypervisor;
    served = named_of (guest_side n) fresh_guest k.guest;
    services = bounded_at (guest_side n) fresh_guest (λ g. g.words) service_limit (services_bounded n) k.guest;
    cleared = named_of (clear_side n) fresh_guest k.clears;
    clears = bounded_at (clear_side n) fresh_guest (λ g. g.words) clear_limit (clears_bounded n) k.clears;
  }

pub each_demand1 : (n : ℕ) → EachDemand1 n
unfolding EachDemand1
each_demand1 n σ os d e f =
    rw ((projects n).world d σ os)
    (within n (steps_reached n (σ.worlds d) (own_list n d σ os) (record {
      hypervisor = record { acts = []; same = sym e };
      guest = record { acts = []; same = sym f };
      clears = record { acts = []; same = sym f };
    })))

-- ---- demand 3

pub each_demand3 : {n : ℕ} → Width n → EachDemand3 n
unfolding EachDemand3 Demand3
each_demand3 {n} wide σ os d lent entries e enough rules =
    rw ((projects n).world d σ os, (projects n).events d σ os, e) (demand3 wide lent entries (own_list n d σ os) enough rules)

pub each_demand3_today : EachDemand3 link_bits
each_demand3_today = each_demand3 link_bits-width

-- ---- T-10

pub each_lengths : {n : ℕ} → Width n → EachLengths n
unfolding EachLengths LengthsOfCalls
each_lengths {n} wide σ os d lent entries e enough rules =
    rw ((projects n).events d σ os, e) (lengths_of_calls wide lent entries (own_list n d σ os) enough rules)

pub each_served : {n : ℕ} → Width n → EachServed n
unfolding EachServed ServedInTurn
each_served {n} wide σ os d lent entries e enough rules =
    rw ((projects n).world d σ os, e) (served_in_turn wide lent entries (own_list n d σ os) enough rules)
