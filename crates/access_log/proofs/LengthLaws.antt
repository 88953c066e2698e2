-- No line has more than 53 bytes, and none has no byte.
-- Assumes nothing.
use mathlib.Core.List.{List}
use Prim.Native.Nat.{ℕ, ◌+◌, ◌≤◌, ◌<◌}
use native.Mathlib.Omega.{arith}
use lib.ListN.{length, length-append}
use Rattle.calls.specs.declared.types.Place.{Place}
use Rattle.calls.specs.declared.types.Place.TheVariants as place
use Rattle.calls.specs.declared.types.Access.{Access}
use Rattle.calls.specs.declared.types.Access.TheVariants.{Read, Store, Or, And, Swap, Cas}
use Rattle.machine.specs.declared.types.Side.{Side}
use Rattle.machine.specs.declared.types.Side.TheVariants.{Hypervisor, Guest}
use Rattle.access_log.specs.declared.line.LoggedCall.{LoggedCall}
use Rattle.access_log.specs.declared.line.LoggedCall.TheVariants.{InitControl, ExpandArray, Bind, Close, SetPriority, Raise, Unmask, Service, Mask, ClearMask}
use Rattle.access_log.specs.declared.line.Line.{Line}
use Rattle.access_log.specs.declared.line.Line.TheVariants as line
use Rattle.access_log.specs.Line.{places, decimal, hex8, side_of, place_of, row, access_bytes, call_bytes, bytes_of}
use Rattle.access_log.proofs.DigitLaws.{length_digits, places_le}

decimal_fits : (n : ℕ) → length (decimal n) ≤ 10
unfolding decimal
decimal_fits n = omega (arith, length_digits 10 (places 10 n) n, places_le 10 n)

hex_fits : (w : ℕ) → length (hex8 w) ≤ 8
unfolding hex8
hex_fits w = omega (arith, length_digits 16 8 w)

place_fits : (p : Place) → length (place_of p) ≤ 11
unfolding place_of
place_fits (place.Word port) = omega (arith, decimal_fits port.0)
place_fits place.Ready = omega arith
place_fits (place.Head queue) = omega (arith, decimal_fits queue.0)

side_fits : (s : Side) → length (side_of s) ≤ 1
unfolding side_of
side_fits Hypervisor = omega arith
side_fits Guest = omega arith

row_fits : (s : Side) (kind a b c d : List ℕ) → length kind + length a + length b + length c + length d ≤ 46 →
    length (row s kind a b c d) ≤ 53
unfolding row
row_fits s kind a b c d h = simp length-append (omega (arith, side_fits s))

access_fits : (s : Side) (a : Access) (seen : ℕ) → length (access_bytes s a seen) ≤ 53
unfolding access_bytes
access_fits s (Read p) seen = row_fits s _ _ _ _ _ (omega (arith, place_fits p, hex_fits seen))
access_fits s (Store p v) seen = row_fits s _ _ _ _ _ (omega (arith, place_fits p, hex_fits v))
access_fits s (Or p v) seen = row_fits s _ _ _ _ _ (omega (arith, place_fits p, hex_fits v, hex_fits seen))
access_fits s (And p v) seen = row_fits s _ _ _ _ _ (omega (arith, place_fits p, hex_fits v, hex_fits seen))
access_fits s (Swap p v) seen = row_fits s _ _ _ _ _ (omega (arith, place_fits p, hex_fits v, hex_fits seen))
access_fits s (Cas p old new) seen = row_fits s _ _ _ _ _ (omega (arith, place_fits p, hex_fits old, hex_fits new, hex_fits seen))

call_fits : (c : LoggedCall) → length (call_bytes c) ≤ 53
unfolding call_bytes
call_fits (InitControl v f o) = row_fits Hypervisor _ _ _ _ _ (omega (arith, decimal_fits v, decimal_fits f, decimal_fits o))
call_fits (ExpandArray f) = row_fits Hypervisor _ _ _ _ _ (omega (arith, decimal_fits f))
call_fits (Bind p) = row_fits Hypervisor _ _ _ _ _ (omega (arith, decimal_fits p.0))
call_fits (Close p) = row_fits Hypervisor _ _ _ _ _ (omega (arith, decimal_fits p.0))
call_fits (SetPriority p r) = row_fits Hypervisor _ _ _ _ _ (omega (arith, decimal_fits p.0, decimal_fits r.0))
call_fits (Raise p) = row_fits Hypervisor _ _ _ _ _ (omega (arith, decimal_fits p.0))
call_fits (Unmask p) = row_fits Hypervisor _ _ _ _ _ (omega (arith, decimal_fits p.0))
call_fits Service = row_fits Guest _ _ _ _ _ (omega arith)
call_fits (Mask p) = row_fits Guest _ _ _ _ _ (omega (arith, decimal_fits p.0))
call_fits (ClearMask p) = row_fits Guest _ _ _ _ _ (omega (arith, decimal_fits p.0))

pub line_fits : (l : Line) → length (bytes_of l) ≤ 53
unfolding bytes_of
line_fits line.Header = omega arith
line_fits (line.Access s a seen) = access_fits s a seen
line_fits (line.Answer s number) = row_fits s _ _ _ _ _ (omega (arith, decimal_fits number))
line_fits (line.PortAnswer s number port) = row_fits s _ _ _ _ _ (omega (arith, decimal_fits number, decimal_fits port.0))
line_fits (line.Call c) = call_fits c

-- ---- no line is empty

row_some : (s : Side) (kind a b c d : List ℕ) → 0 < length (row s kind a b c d)
unfolding row side_of
row_some Hypervisor kind a b c d = omega arith
row_some Guest kind a b c d = omega arith

access_some : (s : Side) (a : Access) (seen : ℕ) → 0 < length (access_bytes s a seen)
unfolding access_bytes
access_some s (Read p) seen = row_some s _ _ _ _ _
access_some s (Store p v) seen = row_some s _ _ _ _ _
access_some s (Or p v) seen = row_some s _ _ _ _ _
access_some s (And p v) seen = row_some s _ _ _ _ _
access_some s (Swap p v) seen = row_some s _ _ _ _ _
access_some s (Cas p old new) seen = row_some s _ _ _ _ _

call_some : (c : LoggedCall) → 0 < length (call_bytes c)
unfolding call_bytes
call_some (InitControl v f o) = row_some Hypervisor _ _ _ _ _
call_some (ExpandArray f) = row_some Hypervisor _ _ _ _ _
call_some (Bind p) = row_some Hypervisor _ _ _ _ _
call_some (Close p) = row_some Hypervisor _ _ _ _ _
call_some (SetPriority p r) = row_some Hypervisor _ _ _ _ _
call_some (Raise p) = row_some Hypervisor _ _ _ _ _
call_some (Unmask p) = row_some Hypervisor _ _ _ _ _
call_some Service = row_some Guest _ _ _ _ _
call_some (Mask p) = row_some Guest _ _ _ _ _
call_some (ClearMask p) = row_some Guest _ _ _ _ _

pub line_some : (l : Line) → 0 < length (bytes_of l)
unfolding bytes_of
line_some line.Header = omega arith
line_some (line.Access s a seen) = access_some s a seen
line_some (line.Answer s number) = row_some s _ _ _ _ _
line_some (line.PortAnswer s number port) = row_some s _ _ _ _ _
line_some (line.Call c) = call_some c
