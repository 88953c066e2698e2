-- The hypervisor's calls and its reply on bytes: r is a domain's record, t its ledger, n the number of link bits. Where r is
-- too short, or document 01 refuses, both stay byte for byte.
-- Assumes nothing.
use Rattle.std.specs.Prelude.{None, Option, Some, Result, Ok, Err, ℕ, Bool, cond, List, length, ltb}
use Rattle.word.specs.declared.Port.{Port}
use Rattle.word.specs.Word.{port_at}
use Rattle.word.specs.declared.Priority.{Priority}
use Rattle.word.specs.Entry.{priority_at}
use Rattle.calls.specs.declared.types.Answer.{Answer}
use Rattle.calls.specs.declared.types.Answer.TheVariants.{Done, LinkBits, NoEntry, NoCall}
use Rattle.calls.specs.declared.types.Owner.{Owner}
use Rattle.calls.specs.declared.types.Owner.TheVariants as owner
use Rattle.calls.specs.declared.types.Call.{Call}
use Rattle.calls.specs.declared.hypervisor.stage.Move.{Move}
use Rattle.calls.specs.declared.hypervisor.start.Begun.{Begun}
use Rattle.calls.specs.declared.hypervisor.start.Begun.TheVariants as begin
use Rattle.calls.specs.Records.{is_free, one_more, fresh_domain}
use Rattle.calls.specs.Hypervisor.{accept_init, accept_expand, begin_bind, begin_close, begin_priority, begin_link, staged, due}
use Rattle.evtchn_fifo.specs.Numbers.{put_number, narrow}
use Rattle.evtchn_fifo.specs.Encoded.{EncodedNext, Wrote, wrote, Carried, carried, Freshened, freshened, encoded_answer, encoded_access, too_short}
use Rattle.evtchn_fifo.specs.Ledger.{entry_in, put_entry}
use Rattle.evtchn_fifo.specs.DomainRecord.{domain_size, given_at, pages_at, tail_at, owner_at, call_at, view_at, put_call, put_move, put_domain}

-- the access that the call c of r waits for, or the answer with its count where c is none
unfoldable pub next_at : ℕ → List ℕ → Call → Answer → ℕ → EncodedNext
next_at n r c a count =
    cond (is_free c.owner) (encoded_answer a count)
    (encoded_access (due n c (tail_at r c.queue.0)))

-- ---- init_control and expand_array

abbrev pub init_bytes_of : ℕ → List ℕ → Result Unit Answer → Wrote
init_bytes_of n r (Err a) = wrote (encoded_answer a 0) r
init_bytes_of n r (Ok tt) = wrote (encoded_answer (LinkBits n) 0) (put_number 3 r 0 1)

unfoldable pub init_bytes : ℕ → List ℕ → ℕ → ℕ → ℕ → ℕ → Wrote
init_bytes n r vcpu frame frames offset =
    cond (ltb (length r) domain_size) (wrote too_short r)
    (init_bytes_of n r (accept_init (owner_at r) (given_at r) (narrow vcpu) frame frames (narrow offset)))

abbrev pub expand_bytes_of : List ℕ → Result Unit Answer → Wrote
expand_bytes_of r (Err a) = wrote (encoded_answer a 0) r
expand_bytes_of r (Ok tt) = wrote (encoded_answer Done 0) (put_number 3 r 4 (one_more (pages_at r)))

unfoldable pub expand_bytes : ℕ → List ℕ → ℕ → ℕ → Wrote
expand_bytes n r frame frames =
    cond (ltb (length r) domain_size) (wrote too_short r)
    (expand_bytes_of r (accept_expand n (owner_at r) (given_at r) (pages_at r) frame frames))

-- ---- the calls on a port

-- what the start of a call on port p comes to
unfoldable pub start_bytes : ℕ → List ℕ → List ℕ → Port → Result Begun Answer → Carried
start_bytes n r t p (Err a) = carried (encoded_answer a 0) r t
start_bytes n r t p (Ok (begin.UnderWay c)) = carried (next_at n (put_call r c) c Done 0) (put_call r c) t
start_bytes n r t p (Ok (begin.Settled e)) = carried (encoded_answer Done 0) r (put_entry t p.0 e)

-- how a call starts, by the owner of the call under way, given, pages, the port and its entry
abbrev pub Starts : Type 0
Starts = Owner → Bool → ℕ → Port → Option ℕ → Result Begun Answer

-- a call on a port
pub data PortCall : Type 0 where
  Bind : PortCall
  Close : PortCall
  SetPriority : Priority → PortCall
  Raise : PortCall
  Unmask : PortCall

abbrev pub starts_of : ℕ → PortCall → Starts
starts_of n Bind o given pages p found = begin_bind n o given pages p found
starts_of n Close o given pages p found = begin_close n o given pages p found
starts_of n (SetPriority level) o given pages p found = begin_priority n o given p level found
starts_of n Raise o given pages p found = begin_link n owner.Raise o given pages p found
starts_of n Unmask o given pages p found = begin_link n owner.Unmask o given pages p found

unfoldable pub on_port : ℕ → Starts → List ℕ → List ℕ → Port → Carried
on_port n starts r t p =
    cond (ltb (length r) domain_size) (carried too_short r t)
    (start_bytes n r t p (starts (owner_at r) (given_at r) (pages_at r) p (entry_in t p.0)))

abbrev pub bind_bytes : ℕ → List ℕ → List ℕ → ℕ → Carried
bind_bytes n r t p = on_port n (starts_of n Bind) r t (port_at (narrow p))

abbrev pub close_bytes : ℕ → List ℕ → List ℕ → ℕ → Carried
close_bytes n r t p = on_port n (starts_of n Close) r t (port_at (narrow p))

abbrev pub set_priority_bytes : ℕ → List ℕ → List ℕ → ℕ → ℕ → Carried
set_priority_bytes n r t p level = on_port n (starts_of n (SetPriority (priority_at (narrow level)))) r t (port_at (narrow p))

abbrev pub raise_bytes : ℕ → List ℕ → List ℕ → ℕ → Carried
raise_bytes n r t p = on_port n (starts_of n Raise) r t (port_at (narrow p))

abbrev pub unmask_bytes : ℕ → List ℕ → List ℕ → ℕ → Carried
unmask_bytes n r t p = on_port n (starts_of n Unmask) r t (port_at (narrow p))

-- ---- the reply

abbrev pub move_at : List ℕ → ℕ → ℕ → Move
move_at r e seen = staged (call_at r) e (view_at r e) seen

unfoldable pub move_bytes : ℕ → List ℕ → Move → Wrote
move_bytes n r m = wrote (next_at n (put_move r m) m.call m.answer m.count) (put_move r m)

abbrev pub moved_bytes : ℕ → List ℕ → List ℕ → ℕ → Move → Carried
moved_bytes n r t p m = carried (move_bytes n r m).next (move_bytes n r m).record_bytes (put_entry t p m.entry)

abbrev pub reply_found_bytes : ℕ → List ℕ → List ℕ → ℕ → Option ℕ → Carried
reply_found_bytes n r t seen None = carried (encoded_answer NoEntry 0) r t
reply_found_bytes n r t seen (Some e) = moved_bytes n r t (call_at r).port.0 (move_at r e seen)

unfoldable pub reply_bytes : ℕ → List ℕ → List ℕ → ℕ → Carried
reply_bytes n r t seen =
    cond (ltb (length r) domain_size) (carried too_short r t)
    (cond (is_free (call_at r).owner) (carried (encoded_answer NoCall 0) r t)
    (reply_found_bytes n r t seen (entry_in t (call_at r).port.0)))

-- the access that is due; 16 where no call is under way
unfoldable pub due_bytes : ℕ → List ℕ → EncodedNext
due_bytes n r = cond (ltb (length r) domain_size) too_short (next_at n r (call_at r) NoCall 0)

-- a fresh record
unfoldable pub fresh_domain_bytes : List ℕ → Freshened
fresh_domain_bytes r = cond (ltb (length r) domain_size) (freshened 64 r) (freshened 0 (put_domain r fresh_domain))
