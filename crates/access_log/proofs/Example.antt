-- Document 01's log of C1's raise, byte for byte, and lines that it has none of: a cas, a read, an answer with its port, each call, answer 35.
-- Assumes nothing.
use mathlib.Core.Path.{◌≡◌, refl}
use mathlib.Core.List.{List, [], ◌∷◌, map}
use Prim.Native.String.{String}
use Rattle.word.specs.Word.{port_at, queue_at}
use Rattle.calls.specs.declared.types.Place.TheVariants.{Word, Ready, Head}
use Rattle.calls.specs.declared.types.Access.TheVariants.{Read, Store, Or, Cas}
use Rattle.calls.specs.declared.types.Answer.TheVariants.{UpcallWanted, HandedOver, CallUnmask}
use Rattle.calls.specs.Answers.{code_of}
use Rattle.machine.specs.declared.types.Side.TheVariants.{Hypervisor, Guest}
use Rattle.access_log.specs.declared.line.LoggedCall.TheVariants as call
use Rattle.access_log.specs.declared.line.Line.{Line}
use Rattle.access_log.specs.declared.line.Line.TheVariants.{Header, Access, Call}
use Rattle.access_log.specs.Line.{ascii, digit, digits, places, decimal, hex8, side_of, place_of, row, access_bytes, call_bytes, bytes_of}
use Rattle.access_log.specs.Event.{seen_in, access_line, answer_line}
use Rattle.access_log.specs.Read.{priority_at}

lines : List Line
lines =
    Header
    ∷ Call (call.Raise (port_at 5))
    ∷ Access Hypervisor (Or (Word (port_at 5)) 0x80000000) 0
    ∷ Access Hypervisor (Or (Word (port_at 5)) 0x20000000) 0x80000000
    ∷ access_line Hypervisor (Store (Head (queue_at 7)) 5) 9
    ∷ Access Hypervisor (Or Ready 0x80) 0
    ∷ answer_line Hypervisor UpcallWanted
    ∷ Access Hypervisor (Cas (Word (port_at 131071)) 0xA0000000 0xA0000009) 0xDFFE0000
    ∷ Access Guest (Read (Head (queue_at 15))) 9
    ∷ answer_line Guest (HandedOver (port_at 1000))
    ∷ Call (call.InitControl 0 4294967295 4024)
    ∷ Call (call.ExpandArray 7)
    ∷ Call (call.Bind (port_at 5))
    ∷ Call (call.Close (port_at 5))
    ∷ Call (call.SetPriority (port_at 5) (priority_at 15))
    ∷ Call (call.Unmask (port_at 5))
    ∷ Call call.Service
    ∷ Call (call.Mask (port_at 5))
    ∷ Call (call.ClearMask (port_at 5))
    ∷ answer_line Guest CallUnmask
    ∷ []

texts : List String
texts =
    "accesses\t1\n"
    ∷ "X\tcall\traise\t5\t-\t-\n"
    ∷ "X\tor\tw5\t-\t80000000\t00000000\n"
    ∷ "X\tor\tw5\t-\t20000000\t80000000\n"
    ∷ "X\tstore\th7\t-\t00000005\t-\n"
    ∷ "X\tor\tready\t-\t00000080\t00000000\n"
    ∷ "X\tanswer\t1\t-\t-\t-\n"
    ∷ "X\tcas\tw131071\tA0000000\tA0000009\tDFFE0000\n"
    ∷ "G\tread\th15\t-\t-\t00000009\n"
    ∷ "G\tanswer\t19\t1000\t-\t-\n"
    ∷ "X\tcall\tinit_control\t0\t4294967295\t4024\n"
    ∷ "X\tcall\texpand_array\t-\t7\t-\n"
    ∷ "X\tcall\tbind\t5\t-\t-\n"
    ∷ "X\tcall\tclose\t5\t-\t-\n"
    ∷ "X\tcall\tset_priority\t5\t15\t-\n"
    ∷ "X\tcall\tunmask\t5\t-\t-\n"
    ∷ "G\tcall\tservice\t-\t-\t-\n"
    ∷ "G\tcall\tmask\t5\t-\t-\n"
    ∷ "G\tcall\tclear_mask\t5\t-\t-\n"
    ∷ "G\tanswer\t35\t-\t-\t-\n"
    ∷ []

written : map bytes_of lines ≡ map ascii texts
unfolding lines texts bytes_of access_bytes call_bytes row side_of place_of hex8 decimal places digits digit seen_in access_line answer_line code_of
written = refl
