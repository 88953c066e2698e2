-- Slots in bytes: what is read of one, and the table that the bytes are, slot by slot.
-- Assumes nothing.
use Prim.Native.Nat.{ℕ, zero, suc, ◌+◌, ◌*◌, ◌≤◌, ◌<◌}
use mathlib.Core.Path.{◌≡◌, refl, sym, ap, ◌∙◌, subst}
use mathlib.Core.Bool.{Bool, true, false, cond}
use mathlib.Core.List.{List}
use native.Mathlib.Omega.{arith}
use native.Mathlib.Nat.{not-suc-le-zero}
use lib.ListN.{length, get_or-eq_default}
use lib.Dec.{ltb, leb}
use Rattle.std.proofs.Common.{add-one}
use Rattle.std.proofs.lemmas.Bool.Decides.{nat_tests}
use Rattle.std.specs.Option.{MatchOption, is_some}
use Rattle.std.specs.Prelude.{Option, Some, None}
use Rattle.calls.proofs.Cases.{by_test}
use Rattle.evtchn_fifo.proofs.NumberLaws.{length_put}
use Rattle.evtchn_fifo.specs.Numbers.{put_number_in}
use Rattle.cables.specs.Table.{Slot, empty, slot_count, has, other, slot_of, lowest, lowest_with, taken, find}
use Rattle.cables.proofs.Lowest.{lowest_is, lowest_none}
use Rattle.cables.proofs.Tables.{has_inside, has_taken_lem}
use Rattle.evtchn_cables.specs.TableBytes.{slot_in, put_slot, slots_from, table_at, found_at, cut_up_to, cut_slot_bytes}
use Rattle.evtchn_cables.specs.Encoded.{far_bytes, far_found}

length_number : (t : List ℕ) (i v : ℕ) → length (put_number_in t i v) ≡ length t
unfolding put_number_in
length_number t i v = by_test (λ (u : List ℕ). length u ≡ length t) (leb (i + 4) (length t)) (λ h. length_put 3 t i v) (λ h. refl)

pub length_slot : (t : List ℕ) (i a b : ℕ) → length (put_slot t i a b) ≡ length t
unfolding put_slot
length_slot t i a b = length_number (put_number_in t (i * 8) a) (i * 8 + 4) b ∙ length_number t (i * 8) a

-- ---- the table

slots_length : (t : List ℕ) (i k : ℕ) → length (slots_from t i k) ≡ k
unfolding slots_from
slots_length t i zero = refl
slots_length t i (suc k) = ap suc (slots_length t (suc i) k)

slots_at : (t : List ℕ) (i k j : ℕ) → j < k → slot_of (slots_from t i k) j ≡ slot_in t (i + j)
unfolding slots_from
slots_at t i zero j h = absurd (not-suc-le-zero h)
slots_at t i (suc k) zero h = ap (slot_in t) (omega arith)
slots_at t i (suc k) (suc j) h = slots_at t (suc i) k j (omega arith) ∙ ap (slot_in t) (omega arith)

pub table_length : (t : List ℕ) → length (table_at t) ≡ slot_count
table_length t = slots_length t 0 slot_count

pub slot_at : (t : List ℕ) (i : ℕ) → i < slot_count → slot_of (table_at t) i ≡ slot_in t i
slot_at t i h = slots_at t 0 slot_count i h ∙ ap (slot_in t) (omega arith)

pub slot_beyond : (t : List ℕ) (i : ℕ) → slot_count ≤ i → slot_of (table_at t) i ≡ empty
slot_beyond t i h = get_or-eq_default (table_at t) empty (subst (λ (k : ℕ). k ≤ i) (sym (table_length t)) h)

-- ---- the lowest slot that passes a test, found by a walk over the slots

pub lowest_found : (f : Slot → Bool) (t : List ℕ) (r : Option ℕ) →
    MatchOption r ((k : ℕ) → 0 ≤ k → k < slot_count → f (slot_in t k) ≡ false)
    (λ i. (0 ≤ i) × (i < slot_count) × (f (slot_in t i) ≡ true) × ((k : ℕ) → 0 ≤ k → k < i → f (slot_in t k) ≡ false)) →
    r ≡ found_at (lowest f (table_at t))
lowest_found f t None none = sym (rw (lowest_none f (table_at t) (λ j h. grind (arith, table_length, slot_at, none j)), table_length t))
lowest_found f t (Some i) found =
    let here : lowest f (table_at t) ≡ i = lowest_is f (table_at t) i (omega (arith, table_length, found.1)) (grind (arith, slot_at, found.1, found.2)) (λ j h. grind (arith, slot_at, found.1, found.3 j)) in
    grind (arith, nat_tests, found.1)

pub found_some : (f : Slot → Bool) (t : List ℕ) → is_some (found_at (lowest f (table_at t))) ≡ ltb (lowest f (table_at t)) (length (table_at t))
found_some f t = grind (arith, nat_tests, table_length)

-- the far end that a send names: of the hinted slot if it has the end, else of the lowest that has it
pub send_is : (t : List ℕ) (hint e : ℕ) →
    far_found (cond (taken (table_at t) e) 0 26) t hint e
    ≡ cond (has (slot_of (table_at t) hint) e) (far_bytes 0 (other (slot_in t hint) e) hint)
    (cond (taken (table_at t) e) (far_bytes 0 (other (slot_in t (lowest_with (table_at t) e)) e) (lowest_with (table_at t) e)) (far_bytes 26 0 0))
unfolding find
send_is t hint e = grind (arith, nat_tests, table_length, slot_at, has_inside, has_taken_lem)

-- ---- a cut, slot by slot

pub cut_none : (t : List ℕ) (e : ℕ) → cut_up_to 0 t e ≡ t
unfolding cut_up_to
cut_none t e = refl

pub cut_more : (k : ℕ) (t : List ℕ) (e : ℕ) → cut_up_to (k + 1) t e ≡ cut_slot_bytes (cut_up_to k t e) k e
unfolding cut_up_to
cut_more k t e = rw add-one refl
