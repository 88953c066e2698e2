-- What holds of tables: look-up, cut and lay do what T-01 asks, whatever a lent table holds. The theorem `table_claims` of proofs/ proves
-- this record.
-- Assumes nothing.
use Rattle.std.specs.Prelude.{ℕ, ◌≡◌, true, false, List, length, replicate, eqb}
use Rattle.cables.specs.Table.{Slot, slot_count, is_end, empty, slot_of, taken, has_space, find, across, laid_at, cut_slot, cut_at, Single}

abbrev pub fresh : List Slot
fresh = replicate slot_count empty

pub record TableClaims : Type 0 where
  -- a cut frees every slot that has the end, and leaves each other slot
  pub cut_slots : (t : List Slot) (e i : ℕ) → slot_of (cut_at t e) i ≡ cut_slot e (slot_of t i)
  pub cut_gone : (t : List Slot) (e : ℕ) → taken (cut_at t e) e ≡ false
  -- its room is free again
  pub cut_frees : (t : List Slot) (e : ℕ) → taken t e ≡ true → has_space (cut_at t e) ≡ true
  pub cut_size : (t : List Slot) (e : ℕ) → length (cut_at t e) ≡ length t
  pub cut_single : (t : List Slot) (e : ℕ) → Single t → Single (cut_at t e)
  -- a cable that was laid leads from each end to the other, whatever the hint
  pub lay_near : (t : List Slot) (a b hint : ℕ) → is_end a ≡ true → is_end b ≡ true → eqb a b ≡ false → taken t a ≡ false → taken t b ≡ false → has_space t ≡ true → across (laid_at t a b) hint a ≡ b
  pub lay_far : (t : List Slot) (a b hint : ℕ) → is_end a ≡ true → is_end b ≡ true → eqb a b ≡ false → taken t a ≡ false → taken t b ≡ false → has_space t ≡ true → across (laid_at t a b) hint b ≡ a
  pub lay_size : (t : List Slot) (a b : ℕ) → length (laid_at t a b) ≡ length t
  pub lay_single : (t : List Slot) (a b : ℕ) → eqb a b ≡ false → taken t a ≡ false → taken t b ≡ false → Single t → Single (laid_at t a b)
  -- what a look-up leads to is an end, whatever the table held
  pub across_ends : (t : List Slot) (hint e : ℕ) → taken t e ≡ true → is_end (across t hint e) ≡ true
  -- where each end stands once, a hint changes no look-up
  pub hints : (t : List Slot) (e hint other : ℕ) → Single t → find t hint e ≡ find t other e
  -- a fresh table has no cable, and room
  pub fresh_single : Single fresh
  pub fresh_none : (e : ℕ) → taken fresh e ≡ false
  pub fresh_space : has_space fresh ≡ true
