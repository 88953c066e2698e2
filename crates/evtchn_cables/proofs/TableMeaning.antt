-- What a slot written, and a cut, make of the table that the bytes are; and nothing is written beyond it.
-- Assumes nothing.
use Prim.Native.Nat.{ℕ, zero, suc, ◌+◌, ◌*◌, ◌≤◌, ◌<◌}
use mathlib.Core.Path.{◌≡◌, refl, ◌∙◌}
use mathlib.Core.Bool.{cond}
use mathlib.Core.List.{List}
use mathlib.Core.Logic.{◌≢◌}
use native.Mathlib.Omega.{arith}
use borrow.Author.Tests.{le-leb}
use Rattle.std.proofs.lemmas.Bool.Decides.{nat_tests}
use lib.ListN.{length, get_or, set, replicate, length-set, length-replicate, get_or-replicate, get_or-eq_default}
use lib.Seq.{ext_get_or, get_or-set_same, get_or-set_other}
use lib.Dec.{ltb, leb}
use Rattle.calls.proofs.Cases.{by_test}
use Rattle.evtchn_fifo.specs.Numbers.{number_at, put_number, number_in, put_number_in}
use Rattle.evtchn_fifo.specs.Claims.{Beyond}
use Rattle.evtchn_fifo.proofs.NumberLaws.{length_put, same, before, after}
use Rattle.evtchn_fifo.proofs.BeyondBytes.{stays, then, four}
use Rattle.cables.specs.Table.{slot, empty, slot_count, has, cut_slot, cut_at}
use Rattle.cables.proofs.Tables.{cut_size, table_claims}
use Rattle.evtchn_cables.specs.TableBytes.{table_size, slot_in, put_slot, table_at, cut_slot_bytes, cut_up_to, cut_bytes}
use Rattle.evtchn_cables.proofs.SlotLaws.{table_length, slot_at, length_slot}

-- ---- numbers that lie in the bytes

number_in_lem : (s : List ℕ) (i : ℕ) → i + 4 ≤ length s → number_in s i ≡ number_at 3 s i
unfolding number_in
number_in_lem s i h = rw (le-leb (i + 4) (length s) h)

put_in : (s : List ℕ) (i v : ℕ) → i + 4 ≤ length s → put_number_in s i v ≡ put_number 3 s i v
unfolding put_number_in
put_in s i v h = rw (le-leb (i + 4) (length s) h)

put_slot_lem : (t : List ℕ) (i a b : ℕ) → i * 8 + 8 ≤ length t → put_slot t i a b ≡ put_number 3 (put_number 3 t (i * 8) a) (i * 8 + 4) b
unfolding put_slot
put_slot_lem t i a b h = rw (put_in t (i * 8) a (omega arith), put_in (put_number 3 t (i * 8) a) (i * 8 + 4) b (omega (arith, length_put)))

slot_in_lem : (t : List ℕ) (i : ℕ) → i * 8 + 8 ≤ length t → slot_in t i ≡ slot (number_at 3 t (i * 8)) (number_at 3 t (i * 8 + 4))
unfolding slot_in
slot_in_lem t i h = rw (number_in_lem t (i * 8) (omega arith), number_in_lem t (i * 8 + 4) (omega arith))

-- ---- a slot written

module _ (t : List ℕ) (i a b : ℕ) (long : i * 8 + 8 ≤ length t) where
  slot_same : slot_in (put_slot t i a b) i ≡ slot a b
  slot_same = grind (arith, put_slot_lem, slot_in_lem, before, same, length_put)

  slot_other : (j : ℕ) → j ≢ i → j * 8 + 8 ≤ length t → slot_in (put_slot t i a b) j ≡ slot_in t j
  slot_other j apart h = grind (arith, put_slot_lem, slot_in_lem, before, after, length_put)

-- the table with one slot written
pub table_put : (t : List ℕ) (i a b : ℕ) → table_size ≤ length t → i < slot_count → table_at (put_slot t i a b) ≡ set (table_at t) i (slot a b)
table_put t i a b long h =
    ext_get_or empty _ _ (grind (arith, table_length, length-set)) (λ j k. grind (arith, table_length, slot_at, slot_same, slot_other, get_or-set_same, get_or-set_other, k))

-- ---- a cut

length_cut : (t : List ℕ) (i e : ℕ) → length (cut_slot_bytes t i e) ≡ length t
unfolding cut_slot_bytes
length_cut t i e = grind (arith, length_slot)

length_up_to : (k : ℕ) (t : List ℕ) (e : ℕ) → length (cut_up_to k t e) ≡ length t
unfolding cut_up_to
length_up_to zero t e = refl
length_up_to (suc k) t e = length_cut (cut_up_to k t e) k e ∙ length_up_to k t e

module _ (t : List ℕ) (e : ℕ) where
  cut_same : (i : ℕ) → i * 8 + 8 ≤ length t → slot_in (cut_slot_bytes t i e) i ≡ cut_slot e (slot_in t i)
  unfolding cut_slot_bytes
  cut_same i h = grind (arith, slot_same)

  cut_other : (i j : ℕ) → i * 8 + 8 ≤ length t → j * 8 + 8 ≤ length t → j ≢ i → slot_in (cut_slot_bytes t i e) j ≡ slot_in t j
  unfolding cut_slot_bytes
  cut_other i j h k apart = grind (arith, slot_other)

-- the first k slots are cut, the others are as they were
cut_up_to_lem : (k : ℕ) (t : List ℕ) (e i : ℕ) → table_size ≤ length t → k ≤ slot_count → i < slot_count → slot_in (cut_up_to k t e) i ≡ cond (ltb i k) (cut_slot e (slot_in t i)) (slot_in t i)
unfolding cut_up_to
cut_up_to_lem zero t e i long h l = grind (arith, nat_tests)
cut_up_to_lem (suc k) t e i long h l = grind (arith, nat_tests, length_up_to, cut_same, cut_other, cut_up_to_lem k t e i)

pub table_cut_lem : (t : List ℕ) (e : ℕ) → table_size ≤ length t → table_at (cut_bytes t e) ≡ cut_at (table_at t) e
table_cut_lem t e long =
    ext_get_or empty _ _ (grind (arith, table_length, cut_size)) (λ j k. grind (arith, nat_tests, table_length, slot_at, cut_up_to_lem, table_claims.cut_slots, k))

-- ---- zeros

zero_byte : (m i : ℕ) → get_or (replicate {A = ℕ} m 0) i 0 ≡ 0
zero_byte m i = grind (arith, nat_tests, get_or-replicate, get_or-eq_default, length-replicate)

zero_number : (k m i : ℕ) → number_at k (replicate m 0) i ≡ 0
unfolding number_at
zero_number zero m i = zero_byte m i
zero_number (suc k) m i = rw (zero_byte m i, zero_number k m (i + 1))

pub zero_slot : (i : ℕ) → i < slot_count → slot_in (replicate table_size 0) i ≡ empty
zero_slot i h =
    rw (slot_in_lem (replicate table_size 0) i (rw (length-replicate {A = ℕ} table_size 0) (omega arith)), zero_number 3 table_size (i * 8), zero_number 3 table_size (i * 8 + 4))

-- ---- nothing is written beyond the table

number_beyond : (s : List ℕ) (i v : ℕ) → i + 4 ≤ table_size → Beyond table_size s (put_number_in s i v)
unfolding put_number_in
number_beyond s i v h = by_test (λ (u : List ℕ). Beyond table_size s u) (leb (i + 4) (length s)) (λ k. four table_size s i v h) (λ k. stays)

pub slot_beyond : (t : List ℕ) (i a b : ℕ) → i < slot_count → Beyond table_size t (put_slot t i a b)
unfolding put_slot
slot_beyond t i a b h = then (number_beyond t (i * 8) a (omega arith)) (number_beyond (put_number_in t (i * 8) a) (i * 8 + 4) b (omega arith))

up_to_beyond : (k : ℕ) (t : List ℕ) (e : ℕ) → k ≤ slot_count → Beyond table_size t (cut_up_to k t e)
unfolding cut_up_to cut_slot_bytes
up_to_beyond zero t e h = stays
up_to_beyond (suc k) t e h =
    then (up_to_beyond k t e (omega arith))
    (by_test (λ (u : List ℕ). Beyond table_size (cut_up_to k t e) u) (has (slot_in (cut_up_to k t e) k) e) (λ z. slot_beyond (cut_up_to k t e) k 0 0 (omega arith)) (λ z. stays))

pub cut_beyond : (t : List ℕ) (e : ℕ) → Beyond table_size t (cut_bytes t e)
cut_beyond t e = up_to_beyond slot_count t e (omega arith)
