-- A ledger entry: bits 0 to 3 priority, 4 to 7 last queue, 8 bound, 9 has been linked, 10 to 15 kept as found.
-- Assumes nothing.
use Rattle.std.specs.Prelude.{ℕ, Bool}
use Rattle.word.specs.declared.Priority.{Priority}
use Rattle.word.specs.declared.Queue.{Queue}
use Rattle.word.specs.Bits.{bit, field, with_field}
use Rattle.word.specs.Word.{queue_at}

unfoldable pub priority : ℕ → ℕ
priority e = field 0 4 e

unfoldable pub last_queue : ℕ → ℕ
last_queue e = field 4 4 e

unfoldable pub bound : ℕ → Bool
bound e = bit 8 e

-- has been linked
unfoldable pub ever_linked : ℕ → Bool
ever_linked e = bit 9 e

abbrev pub fresh_entry : ℕ
fresh_entry = 7

unfoldable pub with_priority : ℕ → ℕ → ℕ
with_priority e r = with_field 0 4 e r

unfoldable pub bound_entry : ℕ → ℕ
bound_entry e = with_field 8 1 e 1

-- closed: not bound, priority 7
unfoldable pub closed_entry : ℕ → ℕ
closed_entry e = with_field 8 1 (with_field 0 4 e 7) 0

-- linked on queue q (R2)
unfoldable pub linked_entry : ℕ → ℕ → ℕ
linked_entry e q = with_field 9 1 (with_field 4 4 e q) 1

-- a number as a priority; queue number equals priority
abbrev pub priority_at : ℕ → Priority
priority_at r = record { 0 = r }

abbrev pub queue_of : Priority → Queue
queue_of r = queue_at r.0
