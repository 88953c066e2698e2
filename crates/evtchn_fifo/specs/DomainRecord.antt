-- Document 01's house record in 100 bytes, each word of four: given 0, pages 4, tails 8, then the call under way: owner 72,
-- stage 76, port 80, queue 84, word 88, tries 92, count 96. Any bytes are a record. Given is any number but 0; an owner or a
-- stage that is none of the list's means that no call is under way.
-- Assumes nothing.
use Rattle.std.specs.Prelude.{ℕ, Bool, true, false, cond, not, List, length, eqb, ltb}
use Rattle.word.specs.Word.{port_at, queue_at}
use Rattle.word.specs.Entry.{priority, last_queue}
use Rattle.calls.specs.Records.{is_free, idle_call, closing_port}
use Rattle.calls.specs.declared.types.Owner.{Owner}
use Rattle.calls.specs.declared.types.Owner.TheVariants as owner
use Rattle.calls.specs.declared.types.Stage.{Stage}
use Rattle.calls.specs.declared.types.Stage.TheVariants.{First, R2, R3, R4, SetBusy, ClearBusy, R5, R6}
use Rattle.calls.specs.declared.types.Call.{Call}
use Rattle.calls.specs.declared.types.Domain.{Domain}
use Rattle.calls.specs.declared.hypervisor.stage.View.{View}
use Rattle.calls.specs.declared.hypervisor.stage.Move.{Move}
use Rattle.evtchn_fifo.specs.Numbers.{number_at, put_number, numbers_at, value_at, put_value, put_values}

abbrev pub domain_size : ℕ
domain_size = 100

-- the number of this layout of both records, the ledger and the codes
abbrev pub layout_number : ℕ
layout_number = 2

-- ---- codes

abbrev pub owner_code : Owner → ℕ
owner_code owner.None = 0
owner_code owner.Bind = 1
owner_code owner.Close = 2
owner_code owner.Raise = 3
owner_code owner.Unmask = 4

unfoldable pub owner_of : ℕ → Owner
owner_of k =
    cond (eqb k 1) owner.Bind
    (cond (eqb k 2) owner.Close
    (cond (eqb k 3) owner.Raise
    (cond (eqb k 4) owner.Unmask
    owner.None)))

abbrev pub stage_code : Stage → ℕ
stage_code First = 0
stage_code R2 = 1
stage_code R3 = 2
stage_code R4 = 3
stage_code R5 = 4
stage_code R6 = 5
stage_code SetBusy = 6
stage_code ClearBusy = 7

unfoldable pub stage_of : ℕ → Stage
stage_of k =
    cond (eqb k 1) R2
    (cond (eqb k 2) R3
    (cond (eqb k 3) R4
    (cond (eqb k 4) R5
    (cond (eqb k 5) R6
    (cond (eqb k 6) SetBusy
    (cond (eqb k 7) ClearBusy
    First))))))

abbrev pub given_code : Bool → ℕ
given_code true = 1
given_code false = 0

-- ---- reading

unfoldable pub given_at : List ℕ → Bool
given_at r = not (eqb (number_at 3 r 0) 0)

abbrev pub pages_at : List ℕ → ℕ
pages_at r = number_at 3 r 4

-- not in a record that is too short
abbrev pub given_in : List ℕ → Bool
given_in r = cond (ltb (length r) domain_size) false (given_at r)

-- none of a record that is too short
abbrev pub pages_in : List ℕ → ℕ
pages_in r = cond (ltb (length r) domain_size) 0 (pages_at r)

abbrev pub tail_at : List ℕ → ℕ → ℕ
tail_at r q = value_at 8 r q

unfoldable pub owner_at : List ℕ → Owner
owner_at r = cond (ltb (number_at 3 r 76) 8) (owner_of (number_at 3 r 72)) owner.None

unfoldable pub call_at : List ℕ → Call
call_at r = record { owner = owner_at r; stage = stage_of (number_at 3 r 76); port = port_at (number_at 3 r 80); queue = queue_at (number_at 3 r 84); word = number_at 3 r 88; tries = number_at 3 r 92; count = number_at 3 r 96 }

-- the port of the close whose reply is due; 0: none is, or the record is too short
abbrev pub closing_in : List ℕ → ℕ
closing_in r = cond (ltb (length r) domain_size) 0 (closing_port (call_at r))

unfoldable pub view_at : List ℕ → ℕ → View
view_at r e = record { tail = tail_at r (priority e); former = tail_at r (last_queue e) }

-- where no call is under way, the words of one that has ended are not looked at
unfoldable pub or_idle : Call → Call
or_idle c = cond (is_free c.owner) idle_call c

-- the record that the bytes are
unfoldable pub domain_at : List ℕ → Domain
domain_at r = record { given = given_at r; pages = pages_at r; tails = numbers_at 3 r 8 16; call = or_idle (call_at r) }

-- ---- writing

-- the stage of a call, written; its owner and its port stay
unfoldable pub put_next : List ℕ → Call → List ℕ
put_next r c =
    put_number 3
    (put_number 3
    (put_number 3
    (put_number 3
    (put_number 3 r 76 (stage_code c.stage))
    84 c.queue.0)
    88 c.word)
    92 c.tries)
    96 c.count

unfoldable pub put_call : List ℕ → Call → List ℕ
put_call r c = put_next (put_number 3 (put_number 3 r 72 (owner_code c.owner)) 80 c.port.0) c

abbrev pub put_tail : List ℕ → ℕ → ℕ → List ℕ
put_tail r q v = put_value 8 r q v

-- the call ends: its other words stay
abbrev pub put_end : List ℕ → List ℕ
put_end r = put_number 3 r 72 0

-- all that a reply changes
abbrev pub put_move : List ℕ → Move → List ℕ
put_move r m = cond (is_free m.call.owner) (put_end (put_tail r m.queue.0 m.tail)) (put_call (put_tail r m.queue.0 m.tail) m.call)

-- a record written whole
unfoldable pub put_domain : List ℕ → Domain → List ℕ
put_domain r d = put_call (put_values 8 (put_number 3 (put_number 3 r 0 (given_code d.given)) 4 d.pages) d.tails) d.call
