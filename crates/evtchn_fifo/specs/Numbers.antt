-- Numbers in bytes, the lowest byte first, and 64-bit numbers as 32-bit ones. A number of k + 1 bytes has the index k.
-- Assumes nothing.
use Rattle.std.specs.Prelude.{ℕ, zero, suc, ◌+◌, ◌*◌, ◌/◌, ◌%◌, cond, List, [], ◌∷◌, length, get_or, set, ltb, leb}

unfoldable pub number_at : ℕ → List ℕ → ℕ → ℕ
number_at zero s i = get_or s i 0
number_at (suc k) s i = get_or s i 0 + 256 * number_at k s (i + 1)

-- the top byte is whatever is left of the number
unfoldable pub put_number : ℕ → List ℕ → ℕ → ℕ → List ℕ
put_number zero s i v = set s i v
put_number (suc k) s i v = put_number k (set s i (v % 256)) (i + 1) (v / 256)

-- a number of four bytes at any place: 0, and nothing put, where the bytes end before it does
unfoldable pub number_in : List ℕ → ℕ → ℕ
number_in s i = cond (leb (i + 4) (length s)) (number_at 3 s i) 0

unfoldable pub put_number_in : List ℕ → ℕ → ℕ → List ℕ
put_number_in s i v = cond (leb (i + 4) (length s)) (put_number 3 s i v) s

-- n numbers, one after another
unfoldable pub numbers_at : ℕ → List ℕ → ℕ → ℕ → List ℕ
numbers_at k s i zero = []
numbers_at k s i (suc n) = number_at k s i ∷ numbers_at k s (i + suc k) n

unfoldable pub put_numbers : ℕ → List ℕ → ℕ → List ℕ → List ℕ
put_numbers k s i [] = s
put_numbers k s i (v ∷ vs) = put_numbers k (put_number k s i v) (i + suc k) vs

-- the number of 32 bits that stands for one of 64: itself, or the greatest
unfoldable pub narrow : ℕ → ℕ
narrow v = cond (ltb v 0xFFFFFFFF) v 0xFFFFFFFF

-- ---- sixteen numbers of four bytes from base on, one a queue

unfoldable pub value_at : ℕ → List ℕ → ℕ → ℕ
value_at base s q = cond (ltb q 16) (number_at 3 s (base + q * 4)) 0

unfoldable pub put_value : ℕ → List ℕ → ℕ → ℕ → List ℕ
put_value base s q v = cond (ltb q 16) (put_number 3 s (base + q * 4) v) s

abbrev pub put_values : ℕ → List ℕ → List ℕ → List ℕ
put_values base s l = put_numbers 3 s base l
