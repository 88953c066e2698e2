-- An event that shows small numbers has a legal line, if it has one: its numbers are below 2 ^ 32, what a store saw is left out, and an
-- answer has a port exactly if its number carries one.
-- Assumes nothing.
use Rattle.std.specs.Prelude.{Option, None, Some}
use Prim.Native.Nat.{ℕ}
use mathlib.Core.Path.{◌≡◌, refl}
use mathlib.Core.Bool.{Bool, true, false, cond}
use Rattle.word.specs.Word.{port_at}
use Rattle.calls.specs.declared.types.Place.{Place}
use Rattle.calls.specs.declared.types.Place.TheVariants as place
use Rattle.calls.specs.declared.types.Access.{Access}
use Rattle.calls.specs.declared.types.Access.TheVariants.{Read, Store, Or, And, Swap, Cas}
use Rattle.calls.specs.declared.types.Answer.{Answer}
use Rattle.calls.specs.Answers.{code_of}
use Rattle.machine.specs.declared.types.Side.{Side}
use Rattle.machine.specs.declared.types.Side.TheVariants.{Hypervisor, Guest}
use Rattle.machine.specs.declared.types.Event.{Event}
use Rattle.machine.specs.declared.types.Event.TheVariants.{Nothing, HypervisorAccess, GuestAccess, ClearAccess, MaskAccess, HypervisorAnswer, GuestAnswer}
use Rattle.access_log.specs.declared.line.Line.{Line}
use Rattle.access_log.specs.declared.line.Line.TheVariants as line
use Rattle.access_log.specs.Line.{carries_port, Small, LegalPlace, LegalAccess, Legal}
use Rattle.access_log.specs.Event.{seen_in, access_line, answer_line, line_of}
use Rattle.claims.specs.Numbers.{SmallPlace, SmallAccess, SmallAnswer, SmallEvent}

-- the line, if there is one
abbrev pub LegalLogged : Option Line → Type 0
LegalLogged None = Unit {0}
LegalLogged (Some l) = Legal l

place_legal : (p : Place) → SmallPlace p → LegalPlace p
unfolding LegalPlace
place_legal (place.Word port) h = h
place_legal place.Ready h = tt
place_legal (place.Head queue) h = h

access_legal : (s : Side) (a : Access) (seen : ℕ) → SmallAccess a → Small seen → Legal (access_line s a seen)
unfolding access_line seen_in Legal LegalAccess
access_legal s (Read p) seen h i = (place_legal p h, i)
access_legal s (Store p v) seen h i = (place_legal p h.0, h.1, refl)
access_legal s (Or p v) seen h i = (place_legal p h.0, h.1, i)
access_legal s (And p v) seen h i = (place_legal p h.0, h.1, i)
access_legal s (Swap p v) seen h i = (place_legal p h.0, h.1, i)
access_legal s (Cas p old new) seen h i = (place_legal p h.0, h.1, h.2, i)

code_legal : (s : Side) (number value : ℕ) (b : Bool) → carries_port number ≡ b → Small number → Small value →
    Legal (cond b (line.PortAnswer s number (port_at value)) (line.Answer s number))
unfolding Legal
code_legal s number value true e h i = (h, i, e)
code_legal s number value false e h i = (h, e)

answer_legal : (s : Side) (a : Answer) → SmallAnswer a → Legal (answer_line s a)
unfolding answer_line
answer_legal s a h = code_legal s (code_of a).number (code_of a).value (carries_port (code_of a).number) refl h.number h.value

pub event_legal : (e : Event) → SmallEvent e → LegalLogged (line_of e)
unfolding line_of
event_legal Nothing h = tt
event_legal (HypervisorAccess c a seen) h = access_legal Hypervisor a seen h.0 h.1
event_legal (GuestAccess c a seen) h = access_legal Guest a seen h.0 h.1
event_legal (ClearAccess c a seen) h = access_legal Guest a seen h.0 h.1
event_legal (MaskAccess a seen) h = access_legal Guest a seen h.0 h.1
event_legal (HypervisorAnswer a count) h = answer_legal Hypervisor a h
event_legal (GuestAnswer a count) h = answer_legal Guest a h
