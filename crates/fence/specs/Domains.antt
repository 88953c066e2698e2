-- Demands 1 and 3 and T-10 for each domain by itself: what a system makes of a domain is what its own list of steps makes of it, and that list
-- is its own steps with the sends that come through to it. n is the number of link bits.
-- Assumes nothing.
use Rattle.std.specs.Prelude.{ℕ, ◌^◌, ◌≤◌, ◌≡◌, cond, List, [], ◌∷◌, ◌++◌, length, eqb}
use Rattle.calls.specs.Records.{fresh_domain, fresh_guest}
use Rattle.calls.specs.Claims.{hypervisor_side, guest_side, clear_side}
use Rattle.machine.specs.declared.types.Step.{Step}
use Rattle.machine.specs.declared.types.Event.{Event}
use Rattle.machine.specs.Exec.{World, exec_all}
use Rattle.claims.specs.Reach.{Bounded, array_words, call_limit, service_limit, clear_limit}
use Rattle.interleaving.specs.Fresh.{fresh_world}
use Rattle.interleaving.specs.Rules.{Told, NoGuestCall, KeepsRules}
use Rattle.interleaving.specs.Claim.{Claim}
use Rattle.interleaving.specs.Lengths.{Lengths}
use Rattle.interleaving.specs.Progress.{Progress}
use Rattle.fence.specs.System.{System, Order, Act, Answered, Works, Heard, Says, From, act, after, run, trace}

-- ---- a domain's own list, and what is heard of it

abbrev pub own : ℕ → Act → List Step
own d (Answered code i t) = []
own d (Works e s) = cond (eqb d e) (s ∷ []) []

abbrev pub own_list : ℕ → ℕ → System → List Order → List Step
own_list n d σ [] = []
own_list n d σ (o ∷ os) = own d (act n σ o) ++ own_list n d (after n σ (act n σ o)) os

abbrev pub only : ℕ → List Heard → List Event
only d [] = []
only d (Says code i ∷ l) = only d l
only d (From e x ∷ l) = cond (eqb d e) (x ∷ only d l) (only d l)

abbrev pub only_all : ℕ → List (List Heard) → List Event
only_all d [] = []
only_all d (l ∷ ls) = only d l ++ only_all d ls

-- the system's run, seen from one domain, is a run of the machine
pub record Projects (n : ℕ) : Type 0 where
  pub world : (d : ℕ) (σ : System) (os : List Order) → (run n σ os).worlds d ≡ (exec_all n (σ.worlds d) (own_list n d σ os)).world
  pub events : (d : ℕ) (σ : System) (os : List Order) → only_all d (trace n σ os) ≡ (exec_all n (σ.worlds d) (own_list n d σ os)).events

-- ---- demand 1: from fresh records, whatever words are seen, handed back and lent, and whatever the other domains do

pub record Within (n : ℕ) (w : World) : Type 0 where
  pub named : ℕ
  pub calls : Bounded (hypervisor_side n) array_words call_limit (record { state = w.domain; named = named })
  pub served : ℕ
  pub services : Bounded (guest_side n) (λ g. g.words) service_limit (record { state = w.guest; named = served })
  pub cleared : ℕ
  pub clears : Bounded (clear_side n) (λ g. g.words) clear_limit (record { state = w.guest; named = cleared })

unfoldable pub EachDemand1 : ℕ → Type 0
EachDemand1 n = (σ : System) (os : List Order) (d : ℕ) → (σ.worlds d).domain ≡ fresh_domain → (σ.worlds d).guest ≡ fresh_guest → Within n ((run n σ os).worlds d)

-- ---- demand 3: of a domain whose own guest keeps the rules, whatever the other domains and their guests do

unfoldable pub EachDemand3 : ℕ → Type 0
EachDemand3 n =
    (σ : System) (os : List Order) (d : ℕ) (lent : List ℕ) (entries : ℕ) → σ.worlds d ≡ fresh_world lent entries → 2 ^ n ≤ length lent →
    KeepsRules n (fresh_world lent entries) (own_list n d σ os) → Claim n ((run n σ os).worlds d) (only_all d (trace n σ os))

-- ---- T-10 on the same terms: the sends that reach a domain are its raises

unfoldable pub EachLengths : ℕ → Type 0
EachLengths n =
    (σ : System) (os : List Order) (d : ℕ) (lent : List ℕ) (entries : ℕ) → σ.worlds d ≡ fresh_world lent entries → 2 ^ n ≤ length lent →
    KeepsRules n (fresh_world lent entries) (own_list n d σ os) → Lengths (only_all d (trace n σ os))

unfoldable pub EachServed : ℕ → Type 0
EachServed n =
    (σ : System) (os : List Order) (d : ℕ) (lent : List ℕ) (entries : ℕ) → σ.worlds d ≡ fresh_world lent entries → 2 ^ n ≤ length lent →
    KeepsRules n (fresh_world lent entries) (own_list n d σ os) → Told ((run n σ os).worlds d) → NoGuestCall ((run n σ os).worlds d) → Progress n ((run n σ os).worlds d)
