-- The ledger in bytes: an entry of two bytes a port. A last odd byte is no entry.
-- Assumes nothing.
use Rattle.std.specs.Prelude.{Some, None, Option, ℕ, zero, suc, ◌*◌, ◌/◌, cond, List, length, ltb}
use Rattle.word.specs.Entry.{fresh_entry}
use Rattle.evtchn_fifo.specs.Encoded.{Freshened, freshened}
use Rattle.evtchn_fifo.specs.Numbers.{number_at, put_number, numbers_at}

abbrev pub entries : List ℕ → ℕ
entries t = length t / 2

-- the ledger that the bytes are
abbrev pub ledger_at : List ℕ → List ℕ
ledger_at t = numbers_at 1 t 0 (entries t)

unfoldable pub entry_in : List ℕ → ℕ → Option ℕ
entry_in t p = cond (ltb p (entries t)) (Some (number_at 1 t (p * 2))) None

unfoldable pub put_entry : List ℕ → ℕ → ℕ → List ℕ
put_entry t p e = cond (ltb p (entries t)) (put_number 1 t (p * 2) e) t

-- the first n entries become e
unfoldable pub fill_entries : ℕ → List ℕ → ℕ → List ℕ
fill_entries zero t e = t
fill_entries (suc n) t e = put_number 1 (fill_entries n t e) (n * 2) e

-- every entry fresh; the answer is 0
unfoldable pub fresh_ledger_bytes : List ℕ → Freshened
fresh_ledger_bytes t = freshened 0 (fill_entries (entries t) t fresh_entry)
