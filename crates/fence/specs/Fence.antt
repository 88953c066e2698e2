-- The fence: two runs of one list of calls and replies that differ only in what one domain's words hold, and refuse the same of her
-- calls, have the same accesses, answers and ledger entries in every other domain. `fence` of proofs/ has T-01's own terms, and
-- `fence_weakest` the weakest that suffice. n is the number of link bits.
-- Assumes nothing.
use Rattle.std.specs.Prelude.{ℕ, ◌≡◌, Bool, true, false, cond, ◌&&◌, List, [], ◌∷◌, eqb}
use Rattle.calls.specs.Answers.{code_of}
use Rattle.calls.specs.Claims.{is_refusal}
use Rattle.machine.specs.Memory.{Memory}
use Rattle.machine.specs.declared.types.Side.TheVariants as side
use Rattle.machine.specs.declared.types.Start.{Start}
use Rattle.machine.specs.declared.types.Start.TheVariants.{InitControl, ExpandArray, Bind, Close, SetPriority, Raise, Unmask}
use Rattle.machine.specs.declared.types.Step.{Step}
use Rattle.machine.specs.declared.types.Step.TheVariants as step
use Rattle.machine.specs.declared.types.Event.{Event}
use Rattle.machine.specs.declared.types.Event.TheVariants.{Nothing, HypervisorAccess, GuestAccess, ClearAccess, MaskAccess, HypervisorAnswer, GuestAnswer}
use Rattle.machine.specs.Exec.{World, advance_of}
use Rattle.fence.specs.System.{System, Order, On, Act, Answered, Works, Heard, Says, From, act, after, run, trace}

-- ---- one list of calls and replies

-- a step without the word that a reply hands back, or that its access sees. What her guest does is no part of the list
pub data Kind : Type 0 where
  Starts : Start → Kind
  Replies : Kind
  GuestDoes : Kind

abbrev pub kind : Step → Kind
kind (step.Hypervisor c) = Starts c
kind (step.Guest c) = GuestDoes
kind (step.Perform side.Hypervisor) = Replies
kind (step.Perform side.Guest) = GuestDoes
kind (step.HandBack side.Hypervisor word) = Replies
kind (step.HandBack side.Guest word) = GuestDoes

-- the same order, but for the words of domain h: a reply of hers may see any word in either run
pub data Like (h : ℕ) : Order → Order → Type 0 where
  same : (o : Order) → Like h o o
  hers : (s t : Step) → kind s ≡ kind t → Like h (On h s) (On h t)

-- ---- what is refused of her calls

abbrev pub refuses : Event → Bool
refuses Nothing = false
refuses (HypervisorAccess c a seen) = false
refuses (GuestAccess c a seen) = false
refuses (ClearAccess c a seen) = false
refuses (MaskAccess a seen) = false
refuses (HypervisorAnswer a count) = is_refusal a
refuses (GuestAnswer a count) = false

abbrev pub is_seven : Event → Bool
is_seven Nothing = false
is_seven (HypervisorAccess c a seen) = false
is_seven (GuestAccess c a seen) = false
is_seven (ClearAccess c a seen) = false
is_seven (MaskAccess a seen) = false
is_seven (HypervisorAnswer a count) = eqb (code_of a).number 7
is_seven (GuestAnswer a count) = false

-- of which calls on her domain the terms ask it. A call is refused at its start, by any number, or at its reply, by 7. A reply that is
-- refused, with 14 or 16, is no call
abbrev pub Terms : Type 0
Terms = Start → Bool

unfoldable pub refused : ℕ → Terms → World → Step → Bool
refused n asked w (step.Hypervisor c) = asked c && refuses (advance_of n w (step.Hypervisor c)).advance.answer
refused n asked w (step.Guest c) = false
refused n asked w (step.Perform side.Hypervisor) = is_seven (advance_of n w (step.Perform side.Hypervisor)).advance.answer
refused n asked w (step.Perform side.Guest) = false
refused n asked w (step.HandBack side.Hypervisor word) = is_seven (advance_of n w (step.HandBack side.Hypervisor word)).advance.answer
refused n asked w (step.HandBack side.Guest word) = false

-- T-01's terms: every call, a send that came through to her among them
abbrev pub every_call : Terms
every_call c = true

-- the weakest: those of init_control, expand_array, bind and close
abbrev pub weakest : Terms
weakest (InitControl vcpu frame frames offset) = true
weakest (ExpandArray frame frames) = true
weakest (Bind p) = true
weakest (Close p) = true
weakest (SetPriority p level) = false
weakest (Raise p) = false
weakest (Unmask p) = false

-- ---- two runs alike, and what the fence says of them

module _ (n : ℕ) (asked : Terms) (h : ℕ) where
  abbrev pub refused_hers : System → Act → Bool
  refused_hers σ (Answered code i t) = false
  refused_hers σ (Works d s) = cond (eqb d h) (refused n asked (σ.worlds d) s) false

  -- order by order the same list, and the same refused of her calls
  abbrev pub Alike : System → System → List Order → List Order → Type 0
  Alike σ τ [] [] = Unit {0}
  Alike σ τ [] (p ∷ ps) = ⊥
  Alike σ τ (o ∷ os) [] = ⊥
  Alike σ τ (o ∷ os) (p ∷ ps) =
      Like h o p × (refused_hers σ (act n σ o) ≡ refused_hers τ (act n τ p)) × Alike (after n σ (act n σ o)) (after n τ (act n τ p)) os ps

module _ (h : ℕ) where
  -- what is heard outside her domain
  abbrev pub outside : List Heard → List Heard
  outside [] = []
  outside (Says code i ∷ l) = Says code i ∷ outside l
  outside (From d x ∷ l) = cond (eqb d h) (outside l) (From d x ∷ outside l)

  abbrev pub outside_all : List (List Heard) → List (List Heard)
  outside_all [] = []
  outside_all (l ∷ ls) = outside l ∷ outside_all ls

-- accesses, words seen and answers of every other domain, order by order, and every answer of lay, cut and send; every other domain's
-- record, ledger, guest record and words at the end; and the table
pub record Held (n h : ℕ) (σ τ : System) (os ps : List Order) : Type 0 where
  pub heard : outside_all h (trace n σ os) ≡ outside_all h (trace n τ ps)
  pub worlds : (d : ℕ) → eqb d h ≡ false → (run n σ os).worlds d ≡ (run n τ ps).worlds d
  pub cables : (run n σ os).cables ≡ (run n τ ps).cables

-- other words in her array and control block
abbrev pub with_memory : World → Memory → World
with_memory w m = record { domain = w.domain; ledger = w.ledger; guest = w.guest; memory = m }

abbrev pub with_words : System → ℕ → Memory → System
with_words σ h m = record { worlds = λ d. cond (eqb d h) (with_memory (σ.worlds d) m) (σ.worlds d); cables = σ.cables }

-- from any records, ledgers, words and table
unfoldable pub FenceHolds : ℕ → Terms → Type 0
FenceHolds n asked = (σ : System) (h : ℕ) (m : Memory) (os ps : List Order) → Alike n asked h σ (with_words σ h m) os ps → Held n h σ (with_words σ h m) os ps
