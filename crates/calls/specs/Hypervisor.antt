-- The hypervisor's side of document 01: the refusals of each call in their order, the steps R1 to R6 and U1, and what each
-- call and reply gives for any record, ledger and word seen. R4 tries as document 02 has it (T-05), with BUSY. n is the number
-- of link bits.
-- Assumes nothing.
use Rattle.std.specs.Prelude.{Option, Some, None, Result, Ok, Err, ℕ, ◌+◌, ◌%◌, Bool, true, cond, not, ◌&&◌, List, get_or, set, eqb, ltb, leb}
use Rattle.word.specs.declared.Port.{Port}
use Rattle.word.specs.declared.Queue.{Queue}
use Rattle.word.specs.declared.Priority.{Priority}
use Rattle.word.specs.declared.Flag.TheVariants.{Pending, Masked, Linked, Busy}
use Rattle.word.specs.Word.{has, mask, all_but, with_link, port_at, queue_at}
use Rattle.word.specs.Effect.{after_or, after_and, cas_taken}
use Rattle.word.specs.Ready.{ready_mask, is_ready}
use Rattle.word.specs.Entry.{priority, last_queue, bound, ever_linked, with_priority, bound_entry, closed_entry, linked_entry}
use Rattle.calls.specs.declared.types.Place.TheVariants.{Word, Ready, Head}
use Rattle.calls.specs.declared.types.Access.{Access}
use Rattle.calls.specs.declared.types.Access.TheVariants.{Read, Store, Or, And, Cas}
use Rattle.calls.specs.declared.types.Answer.{Answer}
use Rattle.calls.specs.declared.types.Answer.TheVariants.{Done, LinkBits, UpcallWanted, LinkAbandoned, BadPort, NotBound, AlreadyBound, OutsideArray, StillLinked, BadPriority, AlreadyGiven, NotGiven, BadFrame, BadOffset, TooManyPages, NoEntry, CallUnderWay, NoCall, BadVcpu}
use Rattle.calls.specs.declared.types.Next.{Next}
use Rattle.calls.specs.declared.types.Next.TheVariants as next
use Rattle.calls.specs.declared.types.Owner.{Owner}
use Rattle.calls.specs.declared.types.Owner.TheVariants as owner
use Rattle.calls.specs.declared.types.Stage.{Stage}
use Rattle.calls.specs.declared.types.Stage.TheVariants.{First, R2, R3, R4, SetBusy, ClearBusy, R5, R6}
use Rattle.calls.specs.declared.types.Call.{Call}
use Rattle.calls.specs.declared.types.Domain.{Domain}
use Rattle.calls.specs.declared.types.Outcome.{Outcome}
use Rattle.calls.specs.declared.hypervisor.stage.View.{View}
use Rattle.calls.specs.declared.hypervisor.stage.Move.{Move}
use Rattle.calls.specs.declared.hypervisor.start.Begun.{Begun}
use Rattle.calls.specs.declared.hypervisor.start.Begun.TheVariants as begin
use Rattle.calls.specs.Records.{one_more, page_limit, is_port, in_array, entry_at, is_free, call_at, idle_call, with_call}

-- ---- refusals, each call's row in its order

-- init_control: 15, 17, 9, 11, 12
unfoldable pub is_offset : ℕ → Bool
is_offset offset = eqb (offset % 8) 0 && leb offset 4024

unfoldable pub accept_init : Owner → Bool → ℕ → ℕ → ℕ → ℕ → Result Unit Answer
accept_init o given vcpu frame frames offset =
    cond (not (is_free o)) (Err CallUnderWay)
    (cond (not (eqb vcpu 0)) (Err BadVcpu)
    (cond given (Err AlreadyGiven)
    (cond (leb frames frame) (Err BadFrame)
    (cond (not (is_offset offset)) (Err BadOffset)
    (Ok tt)))))

-- expand_array: 15, 10, 13, 11
unfoldable pub accept_expand : ℕ → Owner → Bool → ℕ → ℕ → ℕ → Result Unit Answer
accept_expand n o given pages frame frames =
    cond (not (is_free o)) (Err CallUnderWay)
    (cond (not given) (Err NotGiven)
    (cond (leb (page_limit n) pages) (Err TooManyPages)
    (cond (leb frames frame) (Err BadFrame)
    (Ok tt))))

-- every call on a port: 15, 10, 3, 14
abbrev pub entry_or14 : Option ℕ → Result ℕ Answer
entry_or14 None = Err NoEntry
entry_or14 (Some e) = Ok e

unfoldable pub accept_port : ℕ → Owner → Bool → Port → Option ℕ → Result ℕ Answer
accept_port n o given p found =
    cond (not (is_free o)) (Err CallUnderWay)
    (cond (not given) (Err NotGiven)
    (cond (not (is_port n p.0)) (Err BadPort)
    (entry_or14 found)))

-- the call is under way, and its first access named
abbrev pub first_access : Owner → Port → Begun
first_access o p = begin.UnderWay (call_at o First p (queue_at 0) 1)

-- bind: then 5. In the array the word is read first; outside it the entry changes at once
abbrev pub bind_entry : ℕ → Port → Result ℕ Answer → Result Begun Answer
bind_entry pages p (Err a) = Err a
bind_entry pages p (Ok e) =
    cond (bound e) (Err AlreadyBound)
    (cond (in_array pages p.0) (Ok (first_access owner.Bind p))
    (Ok (begin.Settled (bound_entry e))))

unfoldable pub begin_bind : ℕ → Owner → Bool → ℕ → Port → Option ℕ → Result Begun Answer
begin_bind n o given pages p found = bind_entry pages p (accept_port n o given p found)

-- close: then 4. Unbound, priority 7; in the array PENDING is cleared first
abbrev pub close_entry : ℕ → Port → Result ℕ Answer → Result Begun Answer
close_entry pages p (Err a) = Err a
close_entry pages p (Ok e) =
    cond (not (bound e)) (Err NotBound)
    (cond (in_array pages p.0) (Ok (first_access owner.Close p))
    (Ok (begin.Settled (closed_entry e))))

unfoldable pub begin_close : ℕ → Owner → Bool → ℕ → Port → Option ℕ → Result Begun Answer
begin_close n o given pages p found = close_entry pages p (accept_port n o given p found)

-- set_priority: then 8; bound or not
abbrev pub priority_entry : Priority → Result ℕ Answer → Result Begun Answer
priority_entry r (Err a) = Err a
priority_entry r (Ok e) =
    cond (ltb 15 r.0) (Err BadPriority)
    (Ok (begin.Settled (with_priority e r.0)))

unfoldable pub begin_priority : ℕ → Owner → Bool → Port → Priority → Option ℕ → Result Begun Answer
begin_priority n o given p r found = priority_entry r (accept_port n o given p found)

-- raise and unmask: then 4, 6
abbrev pub link_entry : Owner → ℕ → Port → Result ℕ Answer → Result Begun Answer
link_entry starts pages p (Err a) = Err a
link_entry starts pages p (Ok e) =
    cond (not (bound e)) (Err NotBound)
    (cond (not (in_array pages p.0)) (Err OutsideArray)
    (Ok (first_access starts p)))

unfoldable pub begin_link : ℕ → Owner → Owner → Bool → ℕ → Port → Option ℕ → Result Begun Answer
begin_link n starts o given pages p found = link_entry starts pages p (accept_port n o given p found)

-- ---- steps: what the word seen makes of a call c on a port whose entry is e

-- the call goes on, no tail changes
abbrev pub goes_on : ℕ → Call → Move
goes_on e c = record { queue = queue_at 16; tail = 0; entry = e; call = c; answer = Done; count = 0 }

-- it ends, no tail changes
abbrev pub ends : ℕ → Answer → ℕ → Move
ends e a count = record { queue = queue_at 16; tail = 0; entry = e; call = idle_call; answer = a; count = count }

-- it ends, and T[q] becomes p
abbrev pub ends_tailed : ℕ → Call → Answer → Move
ends_tailed e c a = record { queue = c.queue; tail = c.port.0; entry = e; call = idle_call; answer = a; count = c.count }

-- another access is named
abbrev pub named : Call → Stage → Queue → Call
named c s q = call_at c.owner s c.port q (one_more c.count)

-- R1: masked or linked, answer 0; else R2
unfoldable pub reply_r1 : Call → ℕ → ℕ → Move
reply_r1 c e seen =
    cond (has Masked seen) (ends e Done c.count)
    (cond (has Linked seen) (ends e Done c.count)
    (goes_on e (named c R2 (queue_at 0))))

-- U1: pending and not linked goes on at R2; else answer 0
unfoldable pub reply_u1 : Call → ℕ → ℕ → Move
reply_u1 c e seen =
    cond (not (has Pending seen)) (ends e Done c.count)
    (cond (has Linked seen) (ends e Done c.count)
    (goes_on e (named c R2 (queue_at 0))))

-- bind's read: linked gives 7; else bound
unfoldable pub reply_bind : Call → ℕ → ℕ → Move
reply_bind c e seen =
    cond (has Linked seen) (ends e StillLinked c.count)
    (ends (bound_entry e) Done c.count)

-- close's and
unfoldable pub reply_close : Call → ℕ → Move
reply_close c e = ends (closed_entry e) Done c.count

abbrev pub reply_first_of : Owner → Call → ℕ → ℕ → Move
reply_first_of owner.None c e seen = ends e NoCall 0
reply_first_of owner.Bind c e seen = reply_bind c e seen
reply_first_of owner.Close c e seen = reply_close c e
reply_first_of owner.Raise c e seen = reply_r1 c e seen
reply_first_of owner.Unmask c e seen = reply_u1 c e seen

unfoldable pub reply_first : Call → ℕ → ℕ → Move
reply_first c e seen = reply_first_of c.owner c e seen

-- R2: the queue that loses its tail, since p was linked there last and is linked elsewhere now; 16 where none does
unfoldable pub stale_queue : ℕ → Port → Queue → ℕ → Queue
stale_queue e p q former =
    cond (not (ever_linked e)) (queue_at 16)
    (cond (eqb (last_queue e) q.0) (queue_at 16)
    (cond (eqb former p.0) (queue_at (last_queue e))
    (queue_at 16)))

-- T[q] is none or p: R5; else R3
unfoldable pub after_r2 : Call → Queue → ℕ → Call
after_r2 c q tail =
    cond (eqb tail 0) (named c R5 q)
    (cond (eqb tail c.port.0) (named c R5 q)
    (named c R3 q))

-- already linked, answer 0; else q is the entry's priority now, kept for the rest of the call
unfoldable pub reply_r2 : Call → ℕ → View → ℕ → Move
reply_r2 c e v seen =
    cond (has Linked seen) (ends e Done c.count)
    record {
      queue = stale_queue e c.port (queue_at (priority e)) v.former;
      tail = 0;
      entry = linked_entry e (priority e);
      call = after_r2 c (queue_at (priority e)) v.tail;
      answer = Done;
      count = 0;
    }

-- a cas is named that compares with the word w; `tries` counts the cas named, with this one
abbrev pub comparing : Call → ℕ → ℕ → Call
comparing c tries w = record { owner = c.owner; stage = R4; port = c.port; queue = c.queue; word = w; tries = tries; count = one_more c.count }

-- the and that clears BUSY is named; w is the latest word seen
abbrev pub clearing : Call → ℕ → Call
clearing c w = record { owner = c.owner; stage = ClearBusy; port = c.port; queue = c.queue; word = w; tries = 0; count = one_more c.count }

-- R3: a word seen without LINKED, R5; else the first cas, of that very word
unfoldable pub reply_r3 : Call → ℕ → ℕ → Move
reply_r3 c e seen = cond (not (has Linked seen)) (goes_on e (named c R5 c.queue)) (goes_on e (comparing c 1 seen))

-- the first cas not taken: a word seen without LINKED, R5; else BUSY is set
unfoldable pub after_first_cas : Call → ℕ → ℕ → Move
after_first_cas c e seen = cond (not (has Linked seen)) (goes_on e (named c R5 c.queue)) (goes_on e (named c SetBusy c.queue))

-- a later one not taken: a word seen without LINKED, or the fifth cas made: BUSY is cleared; else another cas, of the word seen
unfoldable pub after_later_cas : Call → ℕ → ℕ → Move
after_later_cas c e seen =
    cond (not (has Linked seen)) (goes_on e (clearing c seen))
    (cond (leb 5 c.tries) (goes_on e (clearing c seen))
    (goes_on e (comparing c (c.tries + 1) seen)))

unfoldable pub reply_r4 : Call → ℕ → ℕ → Move
reply_r4 c e seen =
    cond (cas_taken seen c.word) (ends_tailed e c Done)
    (cond (leb c.tries 1) (after_first_cas c e seen)
    (after_later_cas c e seen))

-- BUSY is set: the word then standing is the one seen, with BUSY; without LINKED BUSY is cleared; else the second cas, of that word
unfoldable pub reply_set_busy : Call → ℕ → ℕ → Move
reply_set_busy c e seen =
    cond (not (has Linked seen)) (goes_on e (clearing c seen))
    (goes_on e (comparing c 2 (after_or seen (mask Busy))))

-- BUSY is cleared: if the latest word seen had LINKED, T[q] becomes p, answer 2; else R5
unfoldable pub reply_clear_busy : Call → ℕ → Move
reply_clear_busy c e = cond (has Linked c.word) (ends_tailed e c LinkAbandoned) (goes_on e (named c R5 c.queue))

-- R5: T[q] becomes p, and R6
unfoldable pub reply_r5 : Call → ℕ → Move
reply_r5 c e = record { queue = c.queue; tail = c.port.0; entry = e; call = named c R6 c.queue; answer = Done; count = 0 }

-- R6: answer 1 if the bit was clear
unfoldable pub reply_r6 : Call → ℕ → ℕ → Move
reply_r6 c e seen = cond (is_ready c.queue.0 seen) (ends e Done c.count) (ends e UpcallWanted c.count)

abbrev pub staged_at : Stage → Call → ℕ → View → ℕ → Move
staged_at First c e v seen = reply_first c e seen
staged_at R2 c e v seen = reply_r2 c e v seen
staged_at R3 c e v seen = reply_r3 c e seen
staged_at R4 c e v seen = reply_r4 c e seen
staged_at SetBusy c e v seen = reply_set_busy c e seen
staged_at ClearBusy c e v seen = reply_clear_busy c e
staged_at R5 c e v seen = reply_r5 c e
staged_at R6 c e v seen = reply_r6 c e seen

unfoldable pub staged : Call → ℕ → View → ℕ → Move
staged c e v seen = staged_at c.stage c e v seen

-- ---- the access that a call waits for

unfoldable pub due_first : Owner → Port → Access
due_first owner.None p = Read (Word p)
due_first owner.Bind p = Read (Word p)
due_first owner.Close p = And (Word p) (all_but Pending)
due_first owner.Raise p = Or (Word p) (mask Pending)
due_first owner.Unmask p = And (Word p) (all_but Masked)

-- the new word of R4's cas: LINK p, and BUSY clear
abbrev pub linking_word : ℕ → ℕ → ℕ → ℕ
linking_word n w p = with_link n (after_and w (all_but Busy)) p

abbrev pub due_at : ℕ → Stage → Call → ℕ → Access
due_at n First c tail = due_first c.owner c.port
due_at n R2 c tail = Or (Word c.port) (mask Linked)
due_at n R3 c tail = Read (Word (port_at tail))
due_at n R4 c tail = Cas (Word (port_at tail)) c.word (linking_word n c.word c.port.0)
due_at n SetBusy c tail = Or (Word (port_at tail)) (mask Busy)
due_at n ClearBusy c tail = And (Word (port_at tail)) (all_but Busy)
due_at n R5 c tail = Store (Head c.queue) c.port.0
due_at n R6 c tail = Or Ready (ready_mask c.queue.0)

unfoldable pub due : ℕ → Call → ℕ → Access
due n c tail = due_at n c.stage c tail

-- the next access where a call is under way, else the answer with its count
unfoldable pub next_of : ℕ → Domain → Answer → ℕ → Next
next_of n d a count =
    cond (is_free d.call.owner) (next.Answer a count)
    (next.Access (due n d.call (get_or d.tails d.call.queue.0 0)))

abbrev pub due_of : ℕ → Domain → Next
due_of n d = next_of n d NoCall 0

-- ---- the calls

-- an outcome, and the ledger afterwards
pub record Turn : Type 0 where
  pub outcome : Outcome
  pub ledger : List ℕ

abbrev pub turn : Outcome → List ℕ → Turn
turn o ledger = record { outcome = o; ledger = ledger }

-- an answer at once: the record stays, and nothing is counted
abbrev pub answered : Domain → Answer → Outcome
answered d a = record { domain = d; next = next.Answer a 0 }

abbrev pub going_on : ℕ → Domain → Answer → ℕ → Outcome
going_on n d a count = record { domain = d; next = next_of n d a count }

abbrev pub init_control_of : ℕ → Domain → Result Unit Answer → Outcome
init_control_of n d (Err a) = answered d a
init_control_of n d (Ok tt) = answered (record { given = true; pages = d.pages; tails = d.tails; call = d.call }) (LinkBits n)

unfoldable pub init_control : ℕ → Domain → ℕ → ℕ → ℕ → ℕ → Outcome
init_control n d vcpu frame frames offset = init_control_of n d (accept_init d.call.owner d.given vcpu frame frames offset)

abbrev pub expand_array_of : Domain → Result Unit Answer → Outcome
expand_array_of d (Err a) = answered d a
expand_array_of d (Ok tt) = answered (record { given = d.given; pages = one_more d.pages; tails = d.tails; call = d.call }) Done

unfoldable pub expand_array : ℕ → Domain → ℕ → ℕ → Outcome
expand_array n d frame frames = expand_array_of d (accept_expand n d.call.owner d.given d.pages frame frames)

-- what the start of a call on port p comes to
unfoldable pub started : ℕ → Domain → List ℕ → Port → Result Begun Answer → Turn
started n d ledger p (Err a) = turn (answered d a) ledger
started n d ledger p (Ok (begin.UnderWay c)) = turn (going_on n (with_call d c) Done 0) ledger
started n d ledger p (Ok (begin.Settled e)) = turn (answered d Done) (set ledger p.0 e)

unfoldable pub bind_start : ℕ → Domain → List ℕ → Port → Turn
bind_start n d ledger p = started n d ledger p (begin_bind n d.call.owner d.given d.pages p (entry_at ledger p.0))

unfoldable pub close_start : ℕ → Domain → List ℕ → Port → Turn
close_start n d ledger p = started n d ledger p (begin_close n d.call.owner d.given d.pages p (entry_at ledger p.0))

unfoldable pub set_priority : ℕ → Domain → List ℕ → Port → Priority → Turn
set_priority n d ledger p r = started n d ledger p (begin_priority n d.call.owner d.given p r (entry_at ledger p.0))

unfoldable pub raise_start : ℕ → Domain → List ℕ → Port → Turn
raise_start n d ledger p = started n d ledger p (begin_link n owner.Raise d.call.owner d.given d.pages p (entry_at ledger p.0))

unfoldable pub unmask_start : ℕ → Domain → List ℕ → Port → Turn
unmask_start n d ledger p = started n d ledger p (begin_link n owner.Unmask d.call.owner d.given d.pages p (entry_at ledger p.0))

-- ---- the reply: 16, then 14

unfoldable pub view_of : Domain → ℕ → View
view_of d e = record { tail = get_or d.tails (priority e) 0; former = get_or d.tails (last_queue e) 0 }

unfoldable pub moved : Domain → Move → Domain
moved d m = record { given = d.given; pages = d.pages; tails = set d.tails m.queue.0 m.tail; call = m.call }

abbrev pub carried_out : ℕ → Domain → List ℕ → Move → Turn
carried_out n d ledger m = turn (going_on n (moved d m) m.answer m.count) (set ledger d.call.port.0 m.entry)

abbrev pub reply_found : ℕ → Domain → List ℕ → ℕ → Option ℕ → Turn
reply_found n d ledger seen None = turn (answered d NoEntry) ledger
reply_found n d ledger seen (Some e) = carried_out n d ledger (staged d.call e (view_of d e) seen)

unfoldable pub reply_of : ℕ → Domain → List ℕ → ℕ → Turn
reply_of n d ledger seen =
    cond (is_free d.call.owner) (turn (answered d NoCall) ledger)
    (reply_found n d ledger seen (entry_at ledger d.call.port.0))
