-- Domains with cables as one system: each domain is a world of the stepped machine, and orders come one after another. Every close and
-- every reply is the one with cables. n is the number of link bits.
-- Assumes nothing.
use Rattle.std.specs.Prelude.{ℕ, cond, List, [], ◌∷◌, eqb}
use Rattle.word.specs.Word.{port_at}
use Rattle.calls.specs.Answers.{code_of}
use Rattle.calls.specs.Records.{closing_port}
use Rattle.machine.specs.declared.types.Side.TheVariants as side
use Rattle.machine.specs.declared.types.Start.{Start}
use Rattle.machine.specs.declared.types.Start.TheVariants.{InitControl, ExpandArray, Bind, Close, SetPriority, Raise, Unmask}
use Rattle.machine.specs.declared.types.Step.{Step}
use Rattle.machine.specs.declared.types.Step.TheVariants as step
use Rattle.machine.specs.declared.types.Event.{Event}
use Rattle.machine.specs.declared.types.Event.TheVariants.{Nothing, HypervisorAccess, GuestAccess, ClearAccess, MaskAccess, HypervisorAnswer, GuestAnswer}
use Rattle.machine.specs.Exec.{World, exec, advance_of}
use Rattle.cables.specs.Table.{Slot, end, domain_of, port_of, lowest_free, across}
use Rattle.cables.specs.Rules.{port_refusal, lay_refusal, near_refusal, table_laid, table_cut, fallen_at, table_fallen}

-- forty of the worlds can have cables; the others are there so that no number of a domain is a special case
pub record System : Type 0 where
  pub worlds : ℕ → World
  pub cables : List Slot

pub data Order : Type 0 where
  -- any step of a domain
  On : ℕ → Step → Order
  -- two ends; an end; an end, and a hint for the look-up
  Lay : ℕ → ℕ → ℕ → ℕ → Order
  Cut : ℕ → ℕ → Order
  Send : ℕ → ℕ → ℕ → Order

-- what an order comes to: an answer, with the slot beside a lay's 0, and the table afterwards; or a step of one domain. A send that
-- is not refused is the far domain's raise
pub data Act : Type 0 where
  Answered : ℕ → ℕ → List Slot → Act
  Works : ℕ → Step → Act

-- ---- orders on the table

abbrev pub refusal_at : ℕ → System → ℕ → ℕ → ℕ
refusal_at n σ d p = port_refusal n (σ.worlds d).domain (σ.worlds d).ledger p

abbrev pub laid : ℕ → List Slot → ℕ → ℕ → Act
laid code t a b = Answered code (cond (eqb code 0) (lowest_free t) 0) (table_laid code t a b)

abbrev pub cut : ℕ → List Slot → ℕ → Act
cut code t e = Answered code 0 (table_cut code t e)

abbrev pub sent : ℕ → List Slot → ℕ → Act
sent code t far = cond (eqb code 0) (Works (domain_of far) (step.Hypervisor (Raise (port_at (port_of far))))) (Answered code 0 t)

-- by each port's own refusals and the table alone
abbrev pub comes_to : (ℕ → ℕ → ℕ) → List Slot → Order → Act
comes_to refusal t (On d s) = Works d s
comes_to refusal t (Lay d p e q) = laid (lay_refusal d e (refusal d p) (refusal e q) t (end d p) (end e q)) t (end d p) (end e q)
comes_to refusal t (Cut d p) = cut (near_refusal d (refusal d p) t (end d p)) t (end d p)
comes_to refusal t (Send d p hint) = sent (near_refusal d (refusal d p) t (end d p)) t (across t hint (end d p))

unfoldable pub act : ℕ → System → Order → Act
act n σ o = comes_to (refusal_at n σ) σ.cables o

-- ---- the port whose close's ledger change falls in a step; 0: none

abbrev pub closes_at_start : Start → ℕ
closes_at_start (InitControl vcpu frame frames offset) = 0
closes_at_start (ExpandArray frame frames) = 0
closes_at_start (Bind p) = 0
closes_at_start (Close p) = p.0
closes_at_start (SetPriority p level) = 0
closes_at_start (Raise p) = 0
closes_at_start (Unmask p) = 0

abbrev pub closes : World → Step → ℕ
closes w (step.Hypervisor c) = closes_at_start c
closes w (step.Guest c) = 0
closes w (step.Perform side.Hypervisor) = closing_port w.domain.call
closes w (step.Perform side.Guest) = 0
closes w (step.HandBack side.Hypervisor word) = closing_port w.domain.call
closes w (step.HandBack side.Guest word) = 0

-- it falls where the answer is 0
abbrev pub falls_by : Event → ℕ → ℕ
falls_by Nothing p = 0
falls_by (HypervisorAccess c a seen) p = 0
falls_by (GuestAccess c a seen) p = 0
falls_by (ClearAccess c a seen) p = 0
falls_by (MaskAccess a seen) p = 0
falls_by (HypervisorAnswer a count) p = fallen_at (code_of a).number p
falls_by (GuestAnswer a count) p = 0

unfoldable pub falls : ℕ → World → Step → ℕ
falls n w s = falls_by (advance_of n w s).advance.answer (closes w s)

-- ---- the system after an act, and what is heard of it

abbrev pub with_world : (ℕ → World) → ℕ → World → ℕ → World
with_world worlds d w k = cond (eqb k d) w (worlds k)

unfoldable pub after : ℕ → System → Act → System
after n σ (Answered code i t) = record { worlds = σ.worlds; cables = t }
after n σ (Works d s) = record {
  worlds = with_world σ.worlds d (exec n (σ.worlds d) s).world;
  cables = table_fallen d (falls n (σ.worlds d) s) σ.cables;
}

-- an answer to a lay, a cut or a send that is refused, with the slot beside it; or an event of a domain
pub data Heard : Type 0 where
  Says : ℕ → ℕ → Heard
  From : ℕ → Event → Heard

abbrev pub from_each : ℕ → List Event → List Heard
from_each d [] = []
from_each d (x ∷ l) = From d x ∷ from_each d l

unfoldable pub heard : ℕ → System → Act → List Heard
heard n σ (Answered code i t) = Says code i ∷ []
heard n σ (Works d s) = from_each d (exec n (σ.worlds d) s).events

-- ---- lists of orders

abbrev pub run : ℕ → System → List Order → System
run n σ [] = σ
run n σ (o ∷ os) = run n (after n σ (act n σ o)) os

-- what is heard, order by order
abbrev pub trace : ℕ → System → List Order → List (List Heard)
trace n σ [] = []
trace n σ (o ∷ os) = heard n σ (act n σ o) ∷ trace n (after n σ (act n σ o)) os
