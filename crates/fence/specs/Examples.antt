-- Runs that compute: a cable laid, sends through it, a close that cuts it; that each of the fence's terms is needed; and that the terms of
-- the fence and of demand 3 can be met where sends come through. `proofs/Examples.antt` has the proofs.
-- Assumes nothing.
use Rattle.std.specs.Prelude.{ℕ, ◌+◌, ◌^◌, ◌≤◌, ◌≡◌, Bool, true, false, cond, not, ◌&&◌, List, [], ◌∷◌, ◌++◌, map, length, replicate, eqb}
use Rattle.word.specs.Word.{link_bits, port_at, queue_at}
use Rattle.word.specs.Entry.{fresh_entry, bound_entry}
use Rattle.calls.specs.declared.types.Owner.TheVariants as owner
use Rattle.calls.specs.declared.types.Stage.TheVariants as stage
use Rattle.calls.specs.Records.{is_free, call_at, fresh_guest}
use Rattle.machine.specs.Memory.{Memory, memory}
use Rattle.machine.specs.declared.types.Side.TheVariants as side
use Rattle.machine.specs.declared.types.Start.{Start}
use Rattle.machine.specs.declared.types.Start.TheVariants.{InitControl, ExpandArray, Bind, Close, SetPriority, Raise, Unmask}
use Rattle.machine.specs.declared.types.GuestStart.TheVariants.{Service, Tell}
use Rattle.machine.specs.declared.types.Step.{Step}
use Rattle.machine.specs.declared.types.Step.TheVariants as step
use Rattle.machine.specs.Exec.{World}
use Rattle.cables.specs.Table.{empty}
use Rattle.interleaving.specs.Fresh.{fresh_world}
use Rattle.interleaving.specs.Rules.{KeepsRules}
use Rattle.interleaving.specs.Histories.{given_out}
use Rattle.interleaving.specs.Claim.{Claim}
use Rattle.fence.specs.System.{System, Order, On, Lay, Send, Act, Answered, Works, act, after, Heard, Says, From, run, trace}
use Rattle.fence.specs.Fence.{Kind, Starts, Replies, GuestDoes, kind, Like, Terms, refused, every_call, Alike, Held, with_words, FenceHolds}
use Rattle.fence.specs.Domains.{own_list, only_all}

-- ---- steps and orders in short

abbrev init_control : Step
init_control = step.Hypervisor (InitControl 0 0 1 0)

abbrev expand : Step
expand = step.Hypervisor (ExpandArray 0 1)

abbrev bind : ℕ → Step
bind p = step.Hypervisor (Bind (port_at p))

abbrev close : ℕ → Step
close p = step.Hypervisor (Close (port_at p))

abbrev raise : ℕ → Step
raise p = step.Hypervisor (Raise (port_at p))

-- the hypervisor's access that is due, with its reply; a reply that sees any word; the guest's access, and her tell of a page
abbrev access : Step
access = step.Perform side.Hypervisor

abbrev pub sees : ℕ → Step
sees word = step.HandBack side.Hypervisor word

abbrev guest_access : Step
guest_access = step.Perform side.Guest

abbrev tell : Step
tell = step.Guest (Tell 1024)

abbrev each : ℕ → List Step → List Order
each d ss = map (On d) ss

-- ---- a cable

-- every domain is fresh, with sixteen lent words and others behind them; the table has four slots
abbrev pub start : ℕ → List ℕ → System
start entries rest = record { worlds = λ d. fresh_world (replicate 16 1 ++ rest) entries; cables = replicate 4 empty }

abbrev opening : List Step
opening = init_control ∷ expand ∷ []

-- port 6 of domain 39 is bound, and port 5 of domain 0
abbrev ready : List Order
ready = each 0 opening ++ each 39 (opening ++ bind 6 ∷ access ∷ [])

abbrev bound : List Order
bound = ready ++ each 0 (bind 5 ∷ access ∷ [])

abbrev pub joined : List Order
joined = bound ++ Lay 0 5 39 6 ∷ []

abbrev pub closing : List Order
closing = joined ++ On 39 (close 6) ∷ []

abbrev pub closed : List Order
closed = closing ++ On 39 access ∷ []

abbrev pub comes : List Order → Order → Act
comes os o = act link_bits (run link_bits (start 16 []) os) o

pub record CableHolds : Type 0 where
  -- a send on one end is a raise of the other, either way
  pub there : comes joined (Send 0 5 0) ≡ Works 39 (raise 6)
  pub back : comes joined (Send 39 6 0) ≡ Works 0 (raise 5)
  -- a close under way has not cut; its reply has
  pub stands : comes closing (Send 0 5 0) ≡ Works 39 (raise 6)
  pub gone : comes closed (Send 0 5 0) ≡ Answered 26 0 (replicate 4 empty)

-- ---- two lists as one, which differ in the words of domain 0

pub data Twin : Type 0 where
  -- the same order in both; or a reply of hers, which sees one word in the first and another in the second
  both : Order → Twin
  seen : ℕ → ℕ → Twin

abbrev pub first : List Twin → List Order
first [] = []
first (both o ∷ ls) = o ∷ first ls
first (seen v w ∷ ls) = On 0 (sees v) ∷ first ls

abbrev pub second : List Twin → List Order
second [] = []
second (both o ∷ ls) = o ∷ second ls
second (seen v w ∷ ls) = On 0 (sees w) ∷ second ls

abbrev boths : List Order → List Twin
boths os = map both os

abbrev linked : ℕ
linked = 0x20000000

-- ---- each of the fence's terms is needed: without one, two lists are alike and different answers are heard outside her domain

-- a call's number in the order of `Start`, and the terms that ask about every call but those of one number
abbrev number_of : Start → ℕ
number_of (InitControl vcpu frame frames offset) = 0
number_of (ExpandArray frame frames) = 1
number_of (Bind p) = 2
number_of (Close p) = 3
number_of (SetPriority p level) = 4
number_of (Raise p) = 5
number_of (Unmask p) = 6

abbrev pub all_but : ℕ → Terms
all_but k c = not (eqb (number_of c) k)

-- every call at its start, and none at its reply
abbrev is_start : Kind → Bool
is_start (Starts c) = true
is_start Replies = false
is_start GuestDoes = false

abbrev pub at_starts : ℕ → World → Step → Bool
at_starts n w s = is_start (kind s) && refused n every_call w s

-- `Alike` of Fence.antt, for any test of her steps
module _ (n : ℕ) (asks : World → Step → Bool) (h : ℕ) where
  abbrev pub asks_hers : System → Act → Bool
  asks_hers σ (Answered code i t) = false
  asks_hers σ (Works d s) = cond (eqb d h) (asks (σ.worlds d) s) false

  abbrev pub AlikeBy : System → System → List Order → List Order → Type 0
  AlikeBy σ τ [] [] = Unit {0}
  AlikeBy σ τ [] (p ∷ ps) = ⊥
  AlikeBy σ τ (o ∷ os) [] = ⊥
  AlikeBy σ τ (o ∷ os) (p ∷ ps) =
      Like h o p × (asks_hers σ (act n σ o) ≡ asks_hers τ (act n τ p)) × AlikeBy (after n σ (act n σ o)) (after n τ (act n τ p)) os ps

abbrev pub FenceWithoutSeven : ℕ → Type 0
FenceWithoutSeven n =
    (σ : System) (h : ℕ) (m : Memory) (os ps : List Order) → AlikeBy n (at_starts n) h σ (with_words σ h m) os ps →
    Held n h σ (with_words σ h m) os ps

-- the answers of lay and cut, and of sends that are refused
abbrev answers_in : List Heard → List ℕ
answers_in [] = []
answers_in (Says code i ∷ l) = code ∷ answers_in l
answers_in (From d x ∷ l) = answers_in l

abbrev pub answers : List (List Heard) → List ℕ
answers [] = []
answers (l ∷ ls) = answers_in l ++ answers ls

-- two lists have those answers, and refute the fence
pub record Refutes (Fence : Type 0) (σ : System) (ls : List Twin) (one two : List ℕ) : Type 0 where
  pub one_says : answers (trace link_bits σ (first ls)) ≡ one
  pub two_says : answers (trace link_bits σ (second ls)) ≡ two
  pub falls : Fence → ⊥

-- bind 5 sees a word without LINKED or with it
abbrev pub binding : List Twin
binding = boths (ready ++ On 0 (bind 5) ∷ []) ++ seen 0 linked ∷ both (Lay 0 5 39 6) ∷ []

-- raise 5 goes on, or has ended, as port 7 is bound
abbrev pub busy_bind : List Twin
busy_bind = boths (bound ++ On 0 (raise 5) ∷ []) ++ seen 0 linked ∷ both (On 0 (bind 7)) ∷ seen 0 0 ∷ both (Lay 0 7 39 6) ∷ []

-- as port 5 is closed
abbrev pub busy_close : List Twin
busy_close =
    boths (joined ++ On 0 (raise 5) ∷ []) ++ seen 0 linked ∷ both (On 0 (close 5)) ∷ seen linked linked ∷ both (Send 39 6 0) ∷ []

-- as a second page is added, which has port 1030; then that port is closed, at once or not, and its cable's other end laid anew
abbrev pub busy_expand : List Twin
busy_expand =
    boths (bound ++ On 0 (bind 1030) ∷ Lay 0 1030 39 6 ∷ On 0 (raise 5) ∷ [])
    ++ seen 0 linked ∷ both (On 0 expand) ∷ seen linked linked ∷ both (On 0 (close 1030)) ∷ both (Lay 0 5 39 6) ∷ []

-- as the control block is given: from a record with a raise under way, as no fresh one comes to it
abbrev pub odd : System
odd = record {
  worlds = λ d. cond (eqb d 0) record {
    domain = record { given = false; pages = 1; tails = replicate 16 0; call = call_at owner.Raise stage.First (port_at 5) (queue_at 0) 1 };
    ledger = replicate 16 (bound_entry fresh_entry);
    guest = fresh_guest;
    memory = memory [] (replicate 18 0);
  } (fresh_world [] 16);
  cables = replicate 4 empty;
}

abbrev pub busy_init : List Twin
busy_init = boths (each 39 (opening ++ bind 6 ∷ access ∷ [])) ++ seen 0 linked ∷ both (On 0 init_control) ∷ both (Lay 0 5 39 6) ∷ []

pub record TermsNeeded : Type 0 where
  pub seven : Refutes (FenceWithoutSeven link_bits) (start 16 []) binding (0 ∷ []) (4 ∷ [])
  pub bind : Refutes (FenceHolds link_bits (all_but 2)) (start 16 []) busy_bind (4 ∷ []) (0 ∷ [])
  pub close : Refutes (FenceHolds link_bits (all_but 3)) (start 16 []) busy_close (0 ∷ []) (0 ∷ 26 ∷ [])
  pub expand : Refutes (FenceHolds link_bits (all_but 1)) (start 1031 []) busy_expand (0 ∷ 0 ∷ []) (0 ∷ 25 ∷ [])
  pub init : Refutes (FenceHolds link_bits (all_but 0)) odd busy_init (10 ∷ []) (0 ∷ [])

-- ---- the fence's terms can be met where her words differ and sends come through

-- her words at the start of the second run
abbrev pub other_words : Memory
other_words = memory (replicate 16 linked) (replicate 18 7)

-- port 5 of hers is bound over different words; a send from each end; her raise goes on in the first run, and has ended in the second
abbrev pub sending : List Twin
sending =
    boths (ready ++ On 0 (bind 5) ∷ []) ++ seen 0 1
    ∷ boths (Lay 0 5 39 6 ∷ Send 0 5 0 ∷ each 39 (access ∷ access ∷ access ∷ access ∷ []) ++ Send 39 6 0 ∷ []) ++ seen 0 linked ∷ []

abbrev pub start_again : System
start_again = with_words (start 16 []) 0 other_words

pub record TermsMet : Type 0 where
  pub alike : Alike link_bits every_call 0 (start 16 []) start_again (first sending) (second sending)
  -- the sends are among each domain's own steps
  pub there : own_list link_bits 39 (start 16 []) (first sending) ≡
      opening ++ bind 6 ∷ access ∷ raise 6 ∷ access ∷ access ∷ access ∷ access ∷ []
  pub back : own_list link_bits 0 (start 16 []) (first sending) ≡ opening ++ bind 5 ∷ sees 0 ∷ raise 5 ∷ sees 0 ∷ []
  pub busy : is_free ((run link_bits (start 16 []) (first sending)).worlds 0).domain.call.owner ≡ false
  pub free : is_free ((run link_bits start_again (second sending)).worlds 0).domain.call.owner ≡ true
  -- so the fence holds of them
  pub held : Held link_bits 0 (start 16 []) start_again (first sending) (second sending)

-- ---- a neighbour's send between an expand and her tell leaves the rules kept, so demand 3 holds of the domain that it reaches

-- in domain 39, after the send
abbrev after_send : List Step
after_send =
    access ∷ tell ∷ access ∷ access ∷ access ∷ step.Guest Service ∷ guest_access ∷ guest_access ∷ guest_access ∷ guest_access ∷ guest_access ∷ []

-- port 6 is bound before the array has it, so that nothing but the send comes between the expand and the raise
abbrev pub neighbour : List Order
neighbour =
    each 0 (opening ++ bind 5 ∷ access ∷ []) ++ each 39 (init_control ∷ bind 6 ∷ []) ++ Lay 0 5 39 6
    ∷ On 39 expand ∷ Send 0 5 0 ∷ each 39 after_send

pub record NeighbourKeeps (rest : List ℕ) : Type 0 where
  pub own : own_list link_bits 39 (start 16 rest) neighbour ≡ init_control ∷ bind 6 ∷ expand ∷ raise 6 ∷ after_send
  pub rules : KeepsRules link_bits (fresh_world (replicate 16 1 ++ rest) 16) (own_list link_bits 39 (start 16 rest) neighbour)
  -- the port that the send raised is served
  pub given : given_out 7 (only_all 39 (trace link_bits (start 16 rest) neighbour)) ≡ 6 ∷ []

abbrev pub NeighbourClaim : Type 0
NeighbourClaim = (rest : List ℕ) → 2 ^ link_bits ≤ 16 + length rest →
    Claim link_bits ((run link_bits (start 16 rest) neighbour).worlds 39) (only_all 39 (trace link_bits (start 16 rest) neighbour))
