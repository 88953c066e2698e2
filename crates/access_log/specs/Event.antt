-- The line of an event; neither the count nor the call under way stands in the log.
-- Assumes nothing.
use Rattle.std.specs.Prelude.{ℕ, cond, Option, None, Some}
use Rattle.word.specs.Word.{port_at}
use Rattle.calls.specs.declared.types.Access.{Access}
use Rattle.calls.specs.declared.types.Access.TheVariants.{Read, Store, Or, And, Swap, Cas}
use Rattle.calls.specs.declared.types.Answer.{Answer}
use Rattle.calls.specs.declared.answer.Code.{Code}
use Rattle.calls.specs.Answers.{code_of}
use Rattle.machine.specs.declared.types.Side.{Side}
use Rattle.machine.specs.declared.types.Side.TheVariants as side
use Rattle.machine.specs.declared.types.Event.{Event}
use Rattle.machine.specs.declared.types.Event.TheVariants.{Nothing, HypervisorAccess, GuestAccess, ClearAccess, MaskAccess, HypervisorAnswer, GuestAnswer}
use Rattle.access_log.specs.declared.line.Line.{Line}
use Rattle.access_log.specs.declared.line.Line.TheVariants as line
use Rattle.access_log.specs.Line.{carries_port}

-- the word that a line says was seen: none of a store
unfoldable pub seen_in : Access → ℕ → ℕ
seen_in (Read p) seen = seen
seen_in (Store p v) seen = 0
seen_in (Or p v) seen = seen
seen_in (And p v) seen = seen
seen_in (Swap p v) seen = seen
seen_in (Cas p old new) seen = seen

unfoldable pub access_line : Side → Access → ℕ → Line
access_line side a seen = line.Access side a (seen_in a seen)

abbrev pub code_line : Side → Code → Line
code_line side code =
    cond (carries_port code.number) (line.PortAnswer side code.number (port_at code.value))
    (line.Answer side code.number)

unfoldable pub answer_line : Side → Answer → Line
answer_line side a = code_line side (code_of a)

-- the line of an event, if it has one
unfoldable pub line_of : Event → Option Line
line_of Nothing = None
line_of (HypervisorAccess c a seen) = Some (access_line side.Hypervisor a seen)
line_of (GuestAccess c a seen) = Some (access_line side.Guest a seen)
line_of (ClearAccess c a seen) = Some (access_line side.Guest a seen)
line_of (MaskAccess a seen) = Some (access_line side.Guest a seen)
line_of (HypervisorAnswer a count) = Some (answer_line side.Hypervisor a)
line_of (GuestAnswer a count) = Some (answer_line side.Guest a)
