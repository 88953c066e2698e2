-- The records of both sides, fresh and changed; the extent of the array; counts. n is the number of link bits.
-- Assumes nothing.
use Rattle.std.specs.Prelude.{Option, Some, None, ℕ, ◌+◌, ◌/◌, ◌^◌, Bool, true, false, cond, not, ◌&&◌, List, length, get_or, replicate, eqb, ltb}
use Rattle.word.specs.declared.Port.{Port}
use Rattle.word.specs.declared.Queue.{Queue}
use Rattle.word.specs.Word.{port_at, queue_at}
use Rattle.calls.specs.declared.types.Owner.{Owner}
use Rattle.calls.specs.declared.types.Owner.TheVariants as owner
use Rattle.calls.specs.declared.types.Stage.{Stage}
use Rattle.calls.specs.declared.types.Stage.TheVariants as stage
use Rattle.calls.specs.declared.types.Call.{Call}
use Rattle.calls.specs.declared.types.Domain.{Domain}
use Rattle.calls.specs.declared.types.GuestStage.{GuestStage}
use Rattle.calls.specs.declared.types.GuestStage.TheVariants as guest_stage
use Rattle.calls.specs.declared.types.GuestCall.{GuestCall}
use Rattle.calls.specs.declared.types.ClearStage.{ClearStage}
use Rattle.calls.specs.declared.types.ClearStage.TheVariants as clear_stage
use Rattle.calls.specs.declared.types.ClearCall.{ClearCall}
use Rattle.calls.specs.declared.types.Guest.{Guest}

-- a stored count that can't move further stays
unfoldable pub one_more : ℕ → ℕ
one_more count = cond (ltb count 0xFFFFFFFF) (count + 1) count

-- ports are the numbers that LINK can hold, but 0; a page has 1,024 words
abbrev pub port_limit : ℕ → ℕ
port_limit n = 2 ^ n

abbrev pub page_limit : ℕ → ℕ
page_limit n = port_limit n / 1024

unfoldable pub is_port : ℕ → ℕ → Bool
is_port n p = not (eqb p 0) && ltb p (port_limit n)

unfoldable pub in_array : ℕ → ℕ → Bool
in_array pages p = ltb (p / 1024) pages

-- the ledger's entry for a port
unfoldable pub entry_at : List ℕ → ℕ → Option ℕ
entry_at ledger p = cond (ltb p (length ledger)) (Some (get_or ledger p 0)) None

-- no call under way
unfoldable pub is_free : Owner → Bool
is_free owner.None = true
is_free owner.Bind = false
is_free owner.Close = false
is_free owner.Raise = false
is_free owner.Unmask = false

-- the port of the close whose reply is due, which changes its entry; 0 where the call under way is no close
abbrev pub closing_by : Owner → Stage → ℕ → ℕ
closing_by owner.Close stage.First p = p
closing_by owner.Close stage.R2 p = 0
closing_by owner.Close stage.R3 p = 0
closing_by owner.Close stage.R4 p = 0
closing_by owner.Close stage.SetBusy p = 0
closing_by owner.Close stage.ClearBusy p = 0
closing_by owner.Close stage.R5 p = 0
closing_by owner.Close stage.R6 p = 0
closing_by owner.None s p = 0
closing_by owner.Bind s p = 0
closing_by owner.Raise s p = 0
closing_by owner.Unmask s p = 0

abbrev pub closing_port : Call → ℕ
closing_port c = closing_by c.owner c.stage c.port.0

abbrev pub call_at : Owner → Stage → Port → Queue → ℕ → Call
call_at o s p q count = record { owner = o; stage = s; port = p; queue = q; word = 0; tries = 0; count = count }

abbrev pub idle_call : Call
idle_call = call_at owner.None stage.First (port_at 0) (queue_at 0) 0

abbrev pub with_call : Domain → Call → Domain
with_call d c = record { given = d.given; pages = d.pages; tails = d.tails; call = c }

abbrev pub fresh_domain : Domain
fresh_domain = record { given = false; pages = 0; tails = replicate 16 0; call = idle_call }

abbrev pub guest_call_at : GuestStage → Port → Queue → ℕ → GuestCall
guest_call_at s p q count = record { stage = s; port = p; queue = q; count = count }

abbrev pub guest_idle : GuestCall
guest_idle = guest_call_at guest_stage.None (port_at 0) (queue_at 0) 0

-- a clear_mask is under way
unfoldable pub is_clearing : ClearStage → Bool
is_clearing clear_stage.None = false
is_clearing clear_stage.Read = true
is_clearing clear_stage.Cas = true

abbrev pub clear_at : ClearStage → Port → ℕ → ℕ → ClearCall
clear_at s p w count = record { stage = s; port = p; word = w; count = count }

abbrev pub clear_idle : ClearCall
clear_idle = clear_at clear_stage.None (port_at 0) 0 0

abbrev pub fresh_guest : Guest
fresh_guest = record { heads = replicate 16 0; ready = 0; words = 0; call = guest_idle; clear = clear_idle }
