-- The access log of document 01, with call lines (T-02, T-05): the bytes of every line, and which lines are legal.
-- Assumes nothing.
use Rattle.std.specs.Prelude.{ℕ, zero, suc, ◌+◌, ◌-◌, ◌/◌, ◌%◌, ◌^◌, ◌<◌, ◌≡◌, Bool, true, false, cond, ◌||◌, List, [], ◌∷◌, ◌++◌, eqb, ltb}
use Prim.Native.Char.{code}
use Prim.Native.String.{String, [] as none, ◌∷◌ as ◌then◌}
use Rattle.calls.specs.declared.types.Place.{Place}
use Rattle.calls.specs.declared.types.Place.TheVariants as place
use Rattle.calls.specs.declared.types.Access.{Access}
use Rattle.calls.specs.declared.types.Access.TheVariants.{Read, Store, Or, And, Swap, Cas}
use Rattle.machine.specs.declared.types.Side.{Side}
use Rattle.machine.specs.declared.types.Side.TheVariants.{Hypervisor, Guest}
use Rattle.access_log.specs.declared.line.LoggedCall.{LoggedCall}
use Rattle.access_log.specs.declared.line.LoggedCall.TheVariants.{InitControl, ExpandArray, Bind, Close, SetPriority, Raise, Unmask, Service, Mask, ClearMask}
use Rattle.access_log.specs.declared.line.Line.{Line}
use Rattle.access_log.specs.declared.line.Line.TheVariants as line
pub mod Parts

-- ---- numbers

-- a digit below 16: 0 to 9, then A to F
unfoldable pub digit : ℕ → ℕ
digit value = cond (ltb value 10) (code "0" + value) (code "A" + (value - 10))

-- the last count digits of n, the highest first
unfoldable pub digits : ℕ → ℕ → ℕ → List ℕ
digits base zero n = []
digits base (suc count) n = digits base count (n / base) ++ digit (n % base) ∷ []

-- the number of n's decimal digits without leading zeros, or most where that is less
unfoldable pub places : ℕ → ℕ → ℕ
places zero n = 0
places (suc most) n = cond (ltb n 10) 1 (places most (n / 10) + 1)

-- ten digits hold every number below 2 ^ 32
unfoldable pub decimal : ℕ → List ℕ
decimal n = digits 10 (places 10 n) n

unfoldable pub hex8 : ℕ → List ℕ
hex8 word = digits 16 8 word

-- ---- fields

-- the codes of a text
abbrev pub ascii : String → List ℕ
ascii none = []
ascii (c then text) = code c ∷ ascii text

abbrev pub tab : ℕ
tab = code "\t"

abbrev pub newline : ℕ
newline = code "\n"

-- where there is nothing
abbrev pub dash : List ℕ
dash = ascii "-"

unfoldable pub side_of : Side → List ℕ
side_of Hypervisor = ascii "X"
side_of Guest = ascii "G"

unfoldable pub place_of : Place → List ℕ
place_of (place.Word port) = ascii "w" ++ decimal port.0
place_of place.Ready = ascii "ready"
place_of (place.Head queue) = ascii "h" ++ decimal queue.0

-- ---- lines

-- six fields, parted by tabs
unfoldable pub row : Side → List ℕ → List ℕ → List ℕ → List ℕ → List ℕ → List ℕ
row side kind place old operand seen =
    side_of side ++ tab ∷ (kind ++ tab ∷ (place ++ tab ∷ (old ++ tab ∷ (operand ++ tab ∷ (seen ++ newline ∷ [])))))

-- a read has no operand, a store sees nothing, only a cas has an old word
unfoldable pub access_bytes : Side → Access → ℕ → List ℕ
access_bytes side (Read p) seen = row side (ascii "read") (place_of p) dash dash (hex8 seen)
access_bytes side (Store p v) seen = row side (ascii "store") (place_of p) dash (hex8 v) dash
access_bytes side (Or p v) seen = row side (ascii "or") (place_of p) dash (hex8 v) (hex8 seen)
access_bytes side (And p v) seen = row side (ascii "and") (place_of p) dash (hex8 v) (hex8 seen)
access_bytes side (Swap p v) seen = row side (ascii "swap") (place_of p) dash (hex8 v) (hex8 seen)
access_bytes side (Cas p old new) seen = row side (ascii "cas") (place_of p) (hex8 old) (hex8 new) (hex8 seen)

-- port, argument, dash, with a dash where there is none; of init_control VCPU, frame, offset
unfoldable pub call_bytes : LoggedCall → List ℕ
call_bytes (InitControl vcpu frame offset) = row Hypervisor (ascii "call") (ascii "init_control") (decimal vcpu) (decimal frame) (decimal offset)
call_bytes (ExpandArray frame) = row Hypervisor (ascii "call") (ascii "expand_array") dash (decimal frame) dash
call_bytes (Bind port) = row Hypervisor (ascii "call") (ascii "bind") (decimal port.0) dash dash
call_bytes (Close port) = row Hypervisor (ascii "call") (ascii "close") (decimal port.0) dash dash
call_bytes (SetPriority port priority) = row Hypervisor (ascii "call") (ascii "set_priority") (decimal port.0) (decimal priority.0) dash
call_bytes (Raise port) = row Hypervisor (ascii "call") (ascii "raise") (decimal port.0) dash dash
call_bytes (Unmask port) = row Hypervisor (ascii "call") (ascii "unmask") (decimal port.0) dash dash
call_bytes Service = row Guest (ascii "call") (ascii "service") dash dash dash
call_bytes (Mask port) = row Guest (ascii "call") (ascii "mask") (decimal port.0) dash dash
call_bytes (ClearMask port) = row Guest (ascii "call") (ascii "clear_mask") (decimal port.0) dash dash

unfoldable pub bytes_of : Line → List ℕ
bytes_of line.Header = ascii "accesses\t1\n"
bytes_of (line.Access side access seen) = access_bytes side access seen
bytes_of (line.Answer side number) = row side (ascii "answer") (decimal number) dash dash dash
bytes_of (line.PortAnswer side number port) = row side (ascii "answer") (decimal number) (decimal port.0) dash dash
bytes_of (line.Call call) = call_bytes call

-- ---- legal lines

-- 19 and 21 give their port, no other number has one
abbrev pub carries_port : ℕ → Bool
carries_port number = eqb number 19 || eqb number 21

abbrev pub Small : ℕ → Type 0
Small n = n < 2 ^ 32

unfoldable pub LegalPlace : Place → Type 0
LegalPlace (place.Word port) = Small port.0
LegalPlace place.Ready = Unit {0}
LegalPlace (place.Head queue) = Small queue.0

-- what a store saw stands in no line: it is 0 in the line's value
unfoldable pub LegalAccess : Access → ℕ → Type 0
LegalAccess (Read p) seen = LegalPlace p × Small seen
LegalAccess (Store p v) seen = LegalPlace p × Small v × (seen ≡ 0)
LegalAccess (Or p v) seen = LegalPlace p × Small v × Small seen
LegalAccess (And p v) seen = LegalPlace p × Small v × Small seen
LegalAccess (Swap p v) seen = LegalPlace p × Small v × Small seen
LegalAccess (Cas p old new) seen = LegalPlace p × Small old × Small new × Small seen

unfoldable pub LegalCall : LoggedCall → Type 0
LegalCall (InitControl vcpu frame offset) = Small vcpu × Small frame × Small offset
LegalCall (ExpandArray frame) = Small frame
LegalCall (Bind port) = Small port.0
LegalCall (Close port) = Small port.0
LegalCall (SetPriority port priority) = Small port.0 × Small priority.0
LegalCall (Raise port) = Small port.0
LegalCall (Unmask port) = Small port.0
LegalCall Service = Unit {0}
LegalCall (Mask port) = Small port.0
LegalCall (ClearMask port) = Small port.0

-- every number is below 2 ^ 32, and an answer has a port exactly if its number carries one
unfoldable pub Legal : Line → Type 0
Legal line.Header = Unit {0}
Legal (line.Access side access seen) = LegalAccess access seen
Legal (line.Answer side number) = Small number × (carries_port number ≡ false)
Legal (line.PortAnswer side number port) = Small number × Small port.0 × (carries_port number ≡ true)
Legal (line.Call call) = LegalCall call
