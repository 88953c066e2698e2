-- Document 01's guest record in 104 bytes, each word of four: heads 0, local ready bits 64, number of words 68, then the
-- service under way: stage 72, port 76, queue 80, count 84; and the clear_mask under way: stage 88, port 92, word 96, count 100. Any
-- bytes are a record; a stage that is none of the list's means that no service, or no clear_mask, is under way.
-- Assumes nothing.
use Rattle.std.specs.Prelude.{ℕ, cond, List, eqb, ltb, length, replicate}
use Rattle.word.specs.Word.{port_at, queue_at}
use Rattle.calls.specs.Records.{guest_call_at, guest_idle, is_clearing, clear_at, clear_idle}
use Rattle.calls.specs.Guest.{is_serving}
use Rattle.calls.specs.declared.types.GuestStage.{GuestStage}
use Rattle.calls.specs.declared.types.GuestStage.TheVariants.{None, G0, G1, G2, G3, G4}
use Rattle.calls.specs.declared.types.GuestCall.{GuestCall}
use Rattle.calls.specs.declared.types.ClearStage.{ClearStage}
use Rattle.calls.specs.declared.types.ClearStage.TheVariants as clear_stage
use Rattle.calls.specs.declared.types.ClearCall.{ClearCall}
use Rattle.calls.specs.declared.types.Guest.{Guest}
use Rattle.calls.specs.declared.guest.GuestMove.{GuestMove}
use Rattle.calls.specs.declared.clear_mask.ClearMove.{ClearMove}
use Rattle.evtchn_fifo.specs.Numbers.{number_at, put_number, numbers_at, value_at, put_value, put_values}

abbrev pub guest_size : ℕ
guest_size = 104

-- ---- codes

abbrev pub guest_stage_code : GuestStage → ℕ
guest_stage_code None = 0
guest_stage_code G0 = 1
guest_stage_code G1 = 2
guest_stage_code G2 = 3
guest_stage_code G3 = 4
guest_stage_code G4 = 5

unfoldable pub guest_stage_of : ℕ → GuestStage
guest_stage_of k =
    cond (eqb k 1) G0
    (cond (eqb k 2) G1
    (cond (eqb k 3) G2
    (cond (eqb k 4) G3
    (cond (eqb k 5) G4
    None))))

abbrev pub clear_stage_code : ClearStage → ℕ
clear_stage_code clear_stage.None = 0
clear_stage_code clear_stage.Read = 1
clear_stage_code clear_stage.Cas = 2

unfoldable pub clear_stage_of : ℕ → ClearStage
clear_stage_of k =
    cond (eqb k 1) clear_stage.Read
    (cond (eqb k 2) clear_stage.Cas
    clear_stage.None)

-- ---- reading

abbrev pub head_at : List ℕ → ℕ → ℕ
head_at r q = value_at 0 r q

abbrev pub ready_at : List ℕ → ℕ
ready_at r = number_at 3 r 64

abbrev pub words_at : List ℕ → ℕ
words_at r = number_at 3 r 68

-- 0 of a record that is too short
abbrev pub words_in : List ℕ → ℕ
words_in r = cond (ltb (length r) guest_size) 0 (words_at r)

unfoldable pub service_at : List ℕ → GuestCall
service_at r = guest_call_at (guest_stage_of (number_at 3 r 72)) (port_at (number_at 3 r 76)) (queue_at (number_at 3 r 80)) (number_at 3 r 84)

-- where no service is under way, the words of one that has ended are not looked at
unfoldable pub or_guest_idle : GuestCall → GuestCall
or_guest_idle c = cond (is_serving c.stage) c guest_idle

unfoldable pub clear_call_at : List ℕ → ClearCall
clear_call_at r = clear_at (clear_stage_of (number_at 3 r 88)) (port_at (number_at 3 r 92)) (number_at 3 r 96) (number_at 3 r 100)

unfoldable pub or_clear_idle : ClearCall → ClearCall
or_clear_idle c = cond (is_clearing c.stage) c clear_idle

-- the record that the bytes are
unfoldable pub guest_at : List ℕ → Guest
guest_at r = record { heads = numbers_at 3 r 0 16; ready = ready_at r; words = words_at r; call = or_guest_idle (service_at r); clear = or_clear_idle (clear_call_at r) }

-- one without heads and ready bits, which no start and no tell looks at
abbrev pub without_heads : ℕ → GuestCall → ClearCall → Guest
without_heads words c k = record { heads = replicate 16 0; ready = 0; words = words; call = c; clear = k }

-- ---- writing

unfoldable pub put_service : List ℕ → GuestCall → List ℕ
put_service r c =
    put_number 3
    (put_number 3
    (put_number 3
    (put_number 3 r 72 (guest_stage_code c.stage))
    76 c.port.0)
    80 c.queue.0)
    84 c.count

-- the service ends: its other words stay
abbrev pub put_service_end : List ℕ → List ℕ
put_service_end r = put_number 3 r 72 0

-- local ready bits and one head
abbrev pub put_ready : List ℕ → GuestMove → List ℕ
put_ready r m = put_value 0 (put_number 3 r 64 m.ready) m.queue.0 m.head

-- all that a service's reply changes
abbrev pub put_guest_move : List ℕ → GuestMove → List ℕ
put_guest_move r m = cond (is_serving m.call.stage) (put_service (put_ready r m) m.call) (put_service_end (put_ready r m))

unfoldable pub put_clear : List ℕ → ClearCall → List ℕ
put_clear r c =
    put_number 3
    (put_number 3
    (put_number 3
    (put_number 3 r 88 (clear_stage_code c.stage))
    92 c.port.0)
    96 c.word)
    100 c.count

-- the clear_mask ends: its other words stay
abbrev pub put_clear_end : List ℕ → List ℕ
put_clear_end r = put_number 3 r 88 0

-- all that a clear_mask's reply changes
abbrev pub put_clear_move : List ℕ → ClearMove → List ℕ
put_clear_move r m = cond (is_clearing m.call.stage) (put_clear r m.call) (put_clear_end r)

-- a record written whole
unfoldable pub put_guest : List ℕ → Guest → List ℕ
put_guest r g = put_clear (put_service (put_number 3 (put_number 3 (put_values 0 r g.heads) 64 g.ready) 68 g.words) g.call) g.clear
