-- A record at the front of more bytes: what it reads as stays, and what a call writes of it leaves the rest behind it. b is that rest.
-- Assumes nothing.
use Prim.Native.Nat.{ℕ, suc, ◌+◌, ◌*◌, ◌≤◌}
use mathlib.Core.Path.{◌≡◌, refl, sym, ap, ◌∙◌}
use mathlib.Core.Bool.{Bool, true, false}
use mathlib.Core.List.{List, [], ◌∷◌, ◌++◌}
use lib.ListN.{length, drop}
use lib.Dec.{ltb}
use borrow.Author.Tests.{ltb-true, le-ltb}
use native.Mathlib.Omega.{arith}
use Rattle.std.specs.Array.{IsFirstChunk}
use Rattle.std.proofs.lemmas.List.{take-append-drop, length-take-le, length-append}
use Rattle.evtchn_fifo.specs.Numbers.{number_at, put_number, put_numbers, value_at, put_value}
use Rattle.evtchn_fifo.specs.Encoded.{Wrote, wrote}
use Rattle.evtchn_fifo.proofs.NumberLaws.{length_put}
use Rattle.evtchn_fifo.proofs.PartLaws.{number_front, put_front}

-- s is at least `size` bytes, and r is s with b behind it
pub record Front (size : ℕ) (b s r : List ℕ) : Type 0 where
  pub whole : r ≡ s ++ b
  pub long : size ≤ length s

pub first_front : {size : ℕ} {r s : List ℕ} → IsFirstChunk r s size → Front size (drop size r) s r
first_front {size} {r} {s} f = record {
  whole = sym (ap (λ (l : List ℕ). l ++ drop size r) f.same ∙ take-append-drop size r);
  long = rw f.same (omega (arith, length-take-le size r f.enough));
}

module _ {size : ℕ} {b s r : List ℕ} (f : Front size b s r) where
  -- ---- reading

  pub number_is : (k i : ℕ) → i + suc k ≤ size → number_at k r i ≡ number_at k s i
  number_is k i h = let l = f.long in rw f.whole (number_front k s b i (omega arith))

  value_by : (base q : ℕ) (c : Bool) → ltb q 16 ≡ c → base + 64 ≤ size → value_at base r q ≡ value_at base s q
  unfolding value_at
  value_by base q true e h = let l = ltb-true q 16 e in rw e (number_is 3 (base + q * 4) (omega arith))
  value_by base q false e h = rw e

  pub value_is_front : (base q : ℕ) → base + 64 ≤ size → value_at base r q ≡ value_at base s q
  value_is_front base q h = value_by base q (ltb q 16) refl h

  -- ---- writing

  pub put : (k i v : ℕ) → i + suc k ≤ size → Front size b (put_number k s i v) (put_number k r i v)
  put k i v h = let l = f.long in record { whole = rw f.whole (put_front k s b i v (omega arith)); long = rw (length_put k s i v) l }

  put_by : (base q v : ℕ) (c : Bool) → ltb q 16 ≡ c → base + 64 ≤ size → Front size b (put_value base s q v) (put_value base r q v)
  unfolding put_value
  put_by base q v true e h = let l = ltb-true q 16 e in rw e (put 3 (base + q * 4) v (omega arith))
  put_by base q v false e h = rw e f

  pub put_value_front : (base q v : ℕ) → base + 64 ≤ size → Front size b (put_value base s q v) (put_value base r q v)
  put_value_front base q v h = put_by base q v (ltb q 16) refl h

pub puts_front : {size : ℕ} {b : List ℕ} (l : List ℕ) (s r : List ℕ) (i : ℕ) → Front size b s r → i + length l * 4 ≤ size → Front size b (put_numbers 3 s i l) (put_numbers 3 r i l)
unfolding put_numbers
puts_front [] s r i f h = f
puts_front (v ∷ l) s r i f h = puts_front l (put_number 3 s i v) (put_number 3 r i v) (i + 4) (put f 3 i v (omega arith)) (omega arith)

pub long_enough : {size : ℕ} {b s r : List ℕ} → Front size b s r → ltb (length r) size ≡ false
long_enough {size} {b} {s} {r} f = let l = f.long in le-ltb (length r) size (rw f.whole (omega (arith, length-append s b)))

-- what a call leaves, with b behind its record
abbrev pub with_rest : List ℕ → Wrote → Wrote
with_rest b w = wrote w.next (w.record_bytes ++ b)
