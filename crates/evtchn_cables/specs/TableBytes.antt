-- The table in 8,192 bytes: a slot is two numbers of four bytes, the lowest byte first. Any bytes are a table; beyond them is 0.
-- Assumes nothing.
use Rattle.std.specs.Prelude.{ℕ, zero, suc, ◌+◌, ◌*◌, cond, List, [], ◌∷◌, ltb, Option, Some, None}
use Rattle.evtchn_fifo.specs.Numbers.{number_in, put_number_in}
use Rattle.cables.specs.Table.{Slot, slot, slot_count, has}

abbrev pub table_size : ℕ
table_size = 8192

unfoldable pub slot_in : List ℕ → ℕ → Slot
slot_in t i = slot (number_in t (i * 8)) (number_in t (i * 8 + 4))

unfoldable pub put_slot : List ℕ → ℕ → ℕ → ℕ → List ℕ
put_slot t i a b = put_number_in (put_number_in t (i * 8) a) (i * 8 + 4) b

-- k slots from i on
unfoldable pub slots_from : List ℕ → ℕ → ℕ → List Slot
slots_from t i zero = []
slots_from t i (suc k) = slot_in t i ∷ slots_from t (suc i) k

-- the table that the bytes are
abbrev pub table_at : List ℕ → List Slot
table_at t = slots_from t 0 slot_count

-- what a search for the lowest slot comes to: none where the number is no slot's
abbrev pub found_at : ℕ → Option ℕ
found_at i = cond (ltb i slot_count) (Some i) None

-- a slot that has the end becomes free
unfoldable pub cut_slot_bytes : List ℕ → ℕ → ℕ → List ℕ
cut_slot_bytes t i e = cond (has (slot_in t i) e) (put_slot t i 0 0) t

-- of the first k slots, those that have the end become free
unfoldable pub cut_up_to : ℕ → List ℕ → ℕ → List ℕ
cut_up_to zero t e = t
cut_up_to (suc k) t e = cut_slot_bytes (cut_up_to k t e) k e

abbrev pub cut_bytes : List ℕ → ℕ → List ℕ
cut_bytes t e = cut_up_to slot_count t e
