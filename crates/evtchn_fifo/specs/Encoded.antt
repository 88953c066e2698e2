-- What a call or a reply comes to, as C has it: four numbers of 32 bits, which the compiled code returns as two of 64.
-- Assumes nothing.
use Rattle.std.specs.Prelude.{Result, Ok, Err, ℕ, ◌+◌, ◌/◌, ◌%◌, List}
use Rattle.calls.specs.Answers.{code_of}
use Rattle.calls.specs.declared.types.Place.{Place}
use Rattle.calls.specs.declared.types.Place.TheVariants.{Word, Ready, Head}
use Rattle.calls.specs.declared.types.Access.{Access}
use Rattle.calls.specs.declared.types.Access.TheVariants.{Read, Store, Or, And, Swap, Cas}
use Rattle.calls.specs.declared.types.Answer.{Answer}
use Rattle.calls.specs.declared.types.Next.{Next}
use Rattle.calls.specs.declared.types.Next.TheVariants as next
use Rattle.calls.specs.declared.types.Made.{Made}
use Rattle.calls.specs.declared.types.Refused.{Refused}
use Rattle.evtchn_fifo.specs.declared.encoded.PackedNext.{PackedNext}

pub record EncodedNext : Type 0 where
  pub code : ℕ
  pub index : ℕ
  pub value : ℕ
  pub old : ℕ

abbrev pub encoded : ℕ → ℕ → ℕ → ℕ → EncodedNext
encoded code index value old = record { code = code; index = index; value = value; old = old }

-- what C reads of two registers: the first of each pair is the lower half
unfoldable pub unpacked : PackedNext → EncodedNext
unpacked x = encoded (x.first % 0x100000000) (x.first / 0x100000000) (x.second % 0x100000000) (x.second / 0x100000000)

-- an answer: its number, the value that it carries, its count of accesses
unfoldable pub encoded_answer : Answer → ℕ → EncodedNext
encoded_answer a count = encoded (code_of a).number (code_of a).value count 0

-- 64: a buffer is too short
abbrev pub too_short : EncodedNext
too_short = encoded 64 0 0 0

-- an access: kind and place in one number, the place's port or queue, the operand, a cas's old word
abbrev pub place_code : Place → ℕ
place_code (Word p) = 0
place_code Ready = 1
place_code (Head q) = 2

abbrev pub place_index : Place → ℕ
place_index (Word p) = p.0
place_index Ready = 0
place_index (Head q) = q.0

unfoldable pub encoded_place : ℕ → Place → ℕ → ℕ → EncodedNext
encoded_place kind p value old = encoded (kind + place_code p) (place_index p) value old

unfoldable pub encoded_access : Access → EncodedNext
encoded_access (Read p) = encoded_place 0x100 p 0 0
encoded_access (Store p v) = encoded_place 0x110 p v 0
encoded_access (Or p v) = encoded_place 0x120 p v 0
encoded_access (And p v) = encoded_place 0x130 p v 0
encoded_access (Swap p v) = encoded_place 0x140 p v 0
encoded_access (Cas p old new) = encoded_place 0x150 p new old

unfoldable pub encoded_next : Next → EncodedNext
encoded_next (next.Access a) = encoded_access a
encoded_next (next.Answer a count) = encoded_answer a count

-- a mask's access says its answer 0 and count 1
unfoldable pub encoded_masking : Result Made Refused → EncodedNext
encoded_masking (Ok y) = encoded_access y.access
encoded_masking (Err r) = encoded_answer r.answer r.count

-- ---- what C has after a call

-- after one that leaves the ledger alone
pub record Wrote : Type 0 where
  pub next : EncodedNext
  pub record_bytes : List ℕ

abbrev pub wrote : EncodedNext → List ℕ → Wrote
wrote x r = record { next = x; record_bytes = r }

-- and after one that may change it
pub record Carried : Type 0 where
  pub next : EncodedNext
  pub record_bytes : List ℕ
  pub ledger_bytes : List ℕ

abbrev pub carried : EncodedNext → List ℕ → List ℕ → Carried
carried x r t = record { next = x; record_bytes = r; ledger_bytes = t }

-- and after a record or a ledger is made fresh: 0, or 64 where the bytes are too few
pub record Freshened : Type 0 where
  pub code : ℕ
  pub record_bytes : List ℕ

abbrev pub freshened : ℕ → List ℕ → Freshened
freshened k r = record { code = k; record_bytes = r }
