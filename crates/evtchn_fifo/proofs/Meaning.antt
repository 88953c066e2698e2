-- The hypervisor's calls on bytes are the calls on the record and the ledger that the bytes are.
-- Assumes nothing.
use Rattle.std.specs.Prelude.{None, Option, Some, Result, Ok, Err}
use Prim.Native.Nat.{ℕ, ◌<◌, ◌≤◌}
use mathlib.Core.Path.{◌≡◌, refl, sym, ap, ◌∙◌}
use mathlib.Core.Bool.{Bool, true, false, cond, not}
use mathlib.Core.List.{List}
use lib.ListN.{length, replicate}
use lib.Dec.{eqb, ltb, leb}
use borrow.Author.Tests.{le-leb, le-ltb, lt-ltb}
use Rattle.word.specs.declared.Port.{Port}
use Rattle.word.specs.declared.Queue.{Queue}
use Rattle.word.specs.declared.Priority.{Priority}
use Rattle.word.specs.declared.Flag.TheVariants.{Pending, Masked, Linked}
use Rattle.word.specs.Effect.{cas_taken}
use Rattle.word.specs.Ready.{is_ready}
use Rattle.word.specs.Word.{has, port_at, queue_at}
use Rattle.word.specs.Entry.{priority, bound, priority_at, fresh_entry}
use Rattle.calls.specs.declared.types.Answer.{Answer}
use Rattle.calls.specs.declared.types.Domain.{Domain}
use Rattle.calls.specs.declared.types.Call.{Call}
use Rattle.calls.specs.declared.types.Owner.{Owner}
use Rattle.calls.specs.declared.types.Owner.TheVariants as owner
use Rattle.calls.specs.declared.types.Stage.{Stage}
use Rattle.calls.specs.declared.types.Stage.TheVariants.{First, R2, R3, R4, SetBusy, ClearBusy, R5, R6}
use Rattle.calls.specs.declared.types.Answer.TheVariants.{Done, NoCall}
use Rattle.calls.specs.declared.hypervisor.stage.View.{View}
use Rattle.calls.specs.declared.hypervisor.stage.Move.{Move}
use Rattle.calls.specs.declared.hypervisor.start.Begun.{Begun}
use Rattle.calls.specs.declared.hypervisor.start.Begun.TheVariants as begin
use Rattle.calls.specs.Records.{is_free, idle_call, with_call, entry_at, in_array, one_more, fresh_domain}
use Rattle.calls.specs.Hypervisor.{started, init_control, init_control_of, expand_array, expand_array_of, accept_init, accept_expand, bind_start, close_start, set_priority, raise_start, unmask_start, reply_of, reply_found, due_of, staged, staged_at, view_of, carried_out, accept_port, bind_entry, close_entry, priority_entry, link_entry, begin_bind, begin_close, begin_priority, begin_link, reply_first, reply_first_of, reply_bind, reply_close, reply_r1, reply_u1, after_r2, reply_r2, reply_r3, after_first_cas, after_later_cas, reply_r4, reply_set_busy, reply_clear_busy, reply_r5, reply_r6}
use Rattle.evtchn_fifo.specs.Hypervisor as port_call
use Rattle.evtchn_fifo.specs.Numbers.{number_at, numbers_at, narrow}
use Rattle.evtchn_fifo.specs.Encoded.{encoded_next, encoded_answer}
use Rattle.evtchn_fifo.specs.Ledger.{entries, ledger_at, entry_in, fresh_ledger_bytes}
use Rattle.evtchn_fifo.specs.DomainRecord.{domain_size, domain_at, or_idle, given_at, owner_at, owner_of, stage_of, pages_at, call_at, view_at}
use Rattle.evtchn_fifo.specs.Hypervisor.{PortCall, Starts, starts_of, on_port, start_bytes, init_bytes, init_bytes_of, expand_bytes, expand_bytes_of, reply_bytes, reply_found_bytes, move_bytes, moved_bytes, due_bytes, fresh_domain_bytes}
use Rattle.evtchn_fifo.specs.Claims.{meant, told, IsCall, MeantAlone, meant_alone, told_alone, IsCallAlone, DomainCalls}
use Rattle.evtchn_fifo.proofs.LedgerLaws.{entry_is, put_is, fill_is}
use Rattle.evtchn_fifo.proofs.DomainLaws.{or_owner, or_busy, domain_call, domain_move, domain_given, domain_pages, domain_back, view_is, next_is, next_call, next_move}

enough : (r : List ℕ) → domain_size ≤ length r → ltb (length r) domain_size ≡ false
enough r h = le-ltb (length r) domain_size h

too_few : (r : List ℕ) → length r < domain_size → ltb (length r) domain_size ≡ true
too_few r h = lt-ltb (length r) domain_size h

-- ---- the calls on a port

-- a call that is under way has an owner
Busy : Result Begun Answer → Type 0
Busy (Err a) = ◌≡◌ {A = ℕ} 0 0
Busy (Ok (begin.UnderWay c)) = or_idle c ≡ c
Busy (Ok (begin.Settled e)) = ◌≡◌ {A = ℕ} 0 0

start_means : (n : ℕ) (r t : List ℕ) (p : Port) (b : Result Begun Answer) → Busy b → domain_size ≤ length r → meant (start_bytes n r t p b) ≡ told (started n (domain_at r) (ledger_at t) p b)
unfolding start_bytes started encoded_next Busy
start_means n r t p (Err a) i h = refl
start_means n r t p (Ok (begin.UnderWay c)) i h = rw (next_call n r c Done 0, domain_call r c (le-leb domain_size (length r) h), i)
start_means n r t p (Ok (begin.Settled e)) i h = rw (put_is t p.0 e)

abbrev begins : Starts → Domain → List ℕ → Port → Result Begun Answer
begins starts d l p = starts d.call.owner d.given d.pages p (entry_at l p.0)

the_owner : (r : List ℕ) → (call_at r).owner ≡ owner_at r
unfolding call_at
the_owner r = refl

begins_is : (starts : Starts) (r t : List ℕ) (p : Port) → starts (owner_at r) (given_at r) (pages_at r) p (entry_in t p.0) ≡ begins starts (domain_at r) (ledger_at t) p
unfolding domain_at
begins_is starts r t p = rw (entry_is t p.0, or_owner (call_at r), the_owner r)

on_port_lem : (n : ℕ) (starts : Starts) (p : Port) → ((o : Owner) (given : Bool) (pages : ℕ) (f : Option ℕ) → Busy (starts o given pages p f)) → IsCall (λ r t. on_port n starts r t p) (λ d l. started n d l p (begins starts d l p))
unfolding on_port
on_port_lem n starts p busy = record {
  means = λ r t h. rw (enough r h, begins_is starts r t p) (start_means n r t p (begins starts (domain_at r) (ledger_at t) p) (busy (domain_at r).call.owner (domain_at r).given (domain_at r).pages (entry_at (ledger_at t) p.0)) h);
  short = λ r t h. rw (too_few r h);
}

-- ---- the reply

busy_if : (b : Bool) (x y : Result Begun Answer) → Busy x → Busy y → Busy (cond b x y)
busy_if true x y a b = a
busy_if false x y a b = b

bind_busy : (pages : ℕ) (p : Port) (a : Result ℕ Answer) → Busy (bind_entry pages p a)
unfolding Busy or_idle is_free
bind_busy pages p (Err a) = refl
bind_busy pages p (Ok e) = busy_if (bound e) _ _ refl (busy_if (in_array pages p.0) _ _ refl refl)

close_busy : (pages : ℕ) (p : Port) (a : Result ℕ Answer) → Busy (close_entry pages p a)
unfolding Busy or_idle is_free
close_busy pages p (Err a) = refl
close_busy pages p (Ok e) = busy_if (not (bound e)) _ _ refl (busy_if (in_array pages p.0) _ _ refl refl)

priority_busy : (level : Priority) (a : Result ℕ Answer) → Busy (priority_entry level a)
unfolding Busy
priority_busy level (Err a) = refl
priority_busy level (Ok e) = busy_if (ltb 15 level.0) _ _ refl refl

link_busy : (o : Owner) (pages : ℕ) (p : Port) (a : Result ℕ Answer) → is_free o ≡ false → Busy (link_entry o pages p a)
unfolding Busy
link_busy o pages p (Err a) f = refl
link_busy o pages p (Ok e) f = busy_if (not (bound e)) _ _ refl (busy_if (not (in_array pages p.0)) _ _ refl (or_busy _ f))

starts_busy : (n : ℕ) (call : PortCall) (p : Port) (o : Owner) (given : Bool) (pages : ℕ) (f : Option ℕ) → Busy (starts_of n call o given pages p f)
unfolding begin_bind begin_close begin_priority begin_link is_free
starts_busy n port_call.Bind p o given pages f = bind_busy pages p (accept_port n o given p f)
starts_busy n port_call.Close p o given pages f = close_busy pages p (accept_port n o given p f)
starts_busy n (port_call.SetPriority level) p o given pages f = priority_busy level (accept_port n o given p f)
starts_busy n port_call.Raise p o given pages f = link_busy owner.Raise pages p (accept_port n o given p f) refl
starts_busy n port_call.Unmask p o given pages f = link_busy owner.Unmask pages p (accept_port n o given p f) refl

the_owner_call : (r : List ℕ) → (domain_at r).call.owner ≡ (call_at r).owner
unfolding domain_at
the_owner_call r = or_owner (call_at r)

-- ---- a stage's call is none, or has an owner

abbrev Whole : Move → Type 0
Whole m = or_idle m.call ≡ m.call

whole_if : (b : Bool) (x y : Move) → Whole x → Whole y → Whole (cond b x y)
whole_if true x y a b = a
whole_if false x y a b = b

idle_whole : or_idle idle_call ≡ idle_call
unfolding or_idle is_free
idle_whole = refl

first_whole : (o : Owner) (c : Call) (e seen : ℕ) → is_free c.owner ≡ false → Whole (reply_first_of o c e seen)
unfolding reply_bind reply_close reply_r1 reply_u1
first_whole owner.None c e seen f = idle_whole
first_whole owner.Bind c e seen f = whole_if (has Linked seen) _ _ idle_whole idle_whole
first_whole owner.Close c e seen f = idle_whole
first_whole owner.Raise c e seen f = whole_if (has Masked seen) _ _ idle_whole (whole_if (has Linked seen) _ _ idle_whole (or_busy _ f))
first_whole owner.Unmask c e seen f = whole_if (not (has Pending seen)) _ _ idle_whole (whole_if (has Linked seen) _ _ idle_whole (or_busy _ f))

r4_whole : (c : Call) (e seen : ℕ) → is_free c.owner ≡ false → Whole (reply_r4 c e seen)
unfolding reply_r4 after_first_cas after_later_cas
r4_whole c e seen f =
    whole_if (cas_taken seen c.word) _ _ idle_whole
    (whole_if (leb c.tries 1) _ _ (whole_if (not (has Linked seen)) _ _ (or_busy _ f) (or_busy _ f))
    (whole_if (not (has Linked seen)) _ _ (or_busy _ f) (whole_if (leb 5 c.tries) _ _ (or_busy _ f) (or_busy _ f))))

call_if : (b : Bool) (x y : Call) → or_idle x ≡ x → or_idle y ≡ y → or_idle (cond b x y) ≡ cond b x y
call_if true x y a b = a
call_if false x y a b = b

after_whole : (c : Call) (q : Queue) (t : ℕ) → is_free c.owner ≡ false → or_idle (after_r2 c q t) ≡ after_r2 c q t
unfolding after_r2
after_whole c q t f = call_if (eqb t 0) _ _ (or_busy _ f) (call_if (eqb t c.port.0) _ _ (or_busy _ f) (or_busy _ f))

stage_whole : (s : Stage) (c : Call) (e : ℕ) (v : View) (seen : ℕ) → is_free c.owner ≡ false → Whole (staged_at s c e v seen)
unfolding reply_first reply_r2 reply_r3 reply_set_busy reply_clear_busy reply_r5 reply_r6
stage_whole First c e v seen f = first_whole c.owner c e seen f
stage_whole R2 c e v seen f = whole_if (has Linked seen) _ _ idle_whole (after_whole c (queue_at (priority e)) v.tail f)
stage_whole R3 c e v seen f = whole_if (not (has Linked seen)) _ _ (or_busy _ f) (or_busy _ f)
stage_whole R4 c e v seen f = r4_whole c e seen f
stage_whole SetBusy c e v seen f = whole_if (not (has Linked seen)) _ _ (or_busy _ f) (or_busy _ f)
stage_whole ClearBusy c e v seen f = whole_if (has Linked c.word) _ _ idle_whole (or_busy _ f)
stage_whole R5 c e v seen f = or_busy _ f
stage_whole R6 c e v seen f = whole_if (is_ready c.queue.0 seen) _ _ idle_whole idle_whole

staged_whole : (c : Call) (e : ℕ) (v : View) (seen : ℕ) → is_free c.owner ≡ false → Whole (staged c e v seen)
unfolding staged
staged_whole c e v seen f = stage_whole c.stage c e v seen f

the_call : (r : List ℕ) → is_free (call_at r).owner ≡ false → (domain_at r).call ≡ call_at r
unfolding domain_at
the_call r f = or_busy (call_at r) f

carried_means : (n : ℕ) (r t : List ℕ) (m : Move) → Whole m → domain_size ≤ length r → meant (moved_bytes n r t (domain_at r).call.port.0 m) ≡ told (carried_out n (domain_at r) (ledger_at t) m)
unfolding move_bytes
carried_means n r t m i h =
    rw (next_move n r m (le-leb domain_size (length r) h), domain_move r m (le-leb domain_size (length r) h) i, put_is t (domain_at r).call.port.0 m.entry)

moved_means : (n : ℕ) (r t : List ℕ) (seen : ℕ) (l : Option ℕ) → is_free (call_at r).owner ≡ false → domain_size ≤ length r → meant (reply_found_bytes n r t seen l) ≡ told (reply_found n (domain_at r) (ledger_at t) seen l)
unfolding encoded_next
moved_means n r t seen None f h = refl
moved_means n r t seen (Some e) f h =
    let c = (domain_at r).call in
    let f' : is_free c.owner ≡ false = rw (the_call r f) f in
    ap (λ (x : Call). meant (moved_bytes n r t x.port.0 (staged x e (view_at r e) seen))) (sym (the_call r f)) ∙ ap (λ (v : View). meant (moved_bytes n r t c.port.0 (staged c e v seen))) (view_is r e) ∙ carried_means n r t (staged c e (view_of (domain_at r) e) seen) (staged_whole c e (view_of (domain_at r) e) seen f') h

reply_by : (n : ℕ) (r t : List ℕ) (seen : ℕ) (b : Bool) → is_free (call_at r).owner ≡ b → domain_size ≤ length r → meant (reply_bytes n r t seen) ≡ told (reply_of n (domain_at r) (ledger_at t) seen)
unfolding reply_bytes reply_of encoded_next
reply_by n r t seen true e h =
    let e' : is_free (domain_at r).call.owner ≡ true = rw (the_owner_call r) e in
    rw (enough r h, e, e')
reply_by n r t seen false e h =
    let e' : is_free (domain_at r).call.owner ≡ false = rw (the_call r e) e in
    let f : entry_in t (call_at r).port.0 ≡ entry_at (ledger_at t) (domain_at r).call.port.0 = rw (the_call r e) (entry_is t (call_at r).port.0) in
    rw (enough r h, e, e', f) (moved_means n r t seen (entry_at (ledger_at t) (domain_at r).call.port.0) e h)

reply_means : (n seen : ℕ) → IsCall (λ r t. reply_bytes n r t seen) (λ d l. reply_of n d l seen)
unfolding reply_bytes
reply_means n seen = record {
  means = λ r t h. reply_by n r t seen (is_free (call_at r).owner) refl h;
  short = λ r t h. rw (too_few r h);
}

-- ---- init_control and expand_array

the_given : (r : List ℕ) → (domain_at r).given ≡ given_at r
unfolding domain_at
the_given r = refl

the_pages : (r : List ℕ) → (domain_at r).pages ≡ pages_at r
unfolding domain_at
the_pages r = refl

init_of : (n : ℕ) (r : List ℕ) (a : Result Unit Answer) → domain_size ≤ length r → meant_alone (init_bytes_of n r a) ≡ told_alone (init_control_of n (domain_at r) a)
unfolding encoded_next
init_of n r (Err a) h = refl
init_of n r (Ok tt) h = rw (domain_given r (le-leb domain_size (length r) h))

init_means : (n vcpu frame frames offset : ℕ) → IsCallAlone (λ r. init_bytes n r vcpu frame frames offset) (λ d. init_control n d (narrow vcpu) frame frames (narrow offset))
unfolding init_bytes init_control
init_means n vcpu frame frames offset = record {
  means = λ r h. rw (enough r h) (init_of n r (accept_init (owner_at r) (given_at r) (narrow vcpu) frame frames (narrow offset)) h ∙ ap (λ (o : Owner). told_alone (init_control_of n (domain_at r) (accept_init o (given_at r) (narrow vcpu) frame frames (narrow offset)))) (sym (the_owner_call r ∙ the_owner r)) ∙ ap (λ (g : Bool). told_alone (init_control_of n (domain_at r) (accept_init (domain_at r).call.owner g (narrow vcpu) frame frames (narrow offset)))) (sym (the_given r)));
  short = λ r h. rw (too_few r h);
}

expanded : (r : List ℕ) → ◌≡◌ {A = MeantAlone}
    (record { next = encoded_answer Done 0; domain = record { given = (domain_at r).given; pages = one_more (pages_at r); tails = (domain_at r).tails; call = (domain_at r).call } })
    (told_alone (expand_array_of (domain_at r) (Ok tt)))
unfolding domain_at encoded_next
expanded r = refl

expand_of_lem : (r : List ℕ) (a : Result Unit Answer) → domain_size ≤ length r → meant_alone (expand_bytes_of r a) ≡ told_alone (expand_array_of (domain_at r) a)
unfolding encoded_next
expand_of_lem r (Err a) h = refl
expand_of_lem r (Ok tt) h = rw (domain_pages r (one_more (pages_at r)) (le-leb domain_size (length r) h)) (expanded r)

expand_means : (n frame frames : ℕ) → IsCallAlone (λ r. expand_bytes n r frame frames) (λ d. expand_array n d frame frames)
unfolding expand_bytes expand_array
expand_means n frame frames = record {
  means = λ r h. rw (enough r h) (expand_of_lem r (accept_expand n (owner_at r) (given_at r) (pages_at r) frame frames) h ∙ ap (λ (o : Owner). told_alone (expand_array_of (domain_at r) (accept_expand n o (given_at r) (pages_at r) frame frames))) (sym (the_owner_call r ∙ the_owner r)) ∙ ap (λ (g : Bool). told_alone (expand_array_of (domain_at r) (accept_expand n (domain_at r).call.owner g (pages_at r) frame frames))) (sym (the_given r)) ∙ ap (λ (k : ℕ). told_alone (expand_array_of (domain_at r) (accept_expand n (domain_at r).call.owner (domain_at r).given k frame frames))) (sym (the_pages r)));
  short = λ r h. rw (too_few r h);
}

-- ---- the rest

due_means : (n : ℕ) (r : List ℕ) → domain_size ≤ length r → due_bytes n r ≡ encoded_next (due_of n (domain_at r))
unfolding due_bytes
due_means n r h = rw (enough r h) (next_is n r NoCall 0)

fresh_means : (r : List ℕ) → domain_size ≤ length r → domain_at (fresh_domain_bytes r).record_bytes ≡ fresh_domain
unfolding fresh_domain_bytes
fresh_means r h = rw (enough r h) (domain_back r fresh_domain (le-leb domain_size (length r) h) refl ∙ ap (λ (c : Call). with_call fresh_domain c) idle_whole)

fresh_ledger_means : (t : List ℕ) → ledger_at (fresh_ledger_bytes t).record_bytes ≡ replicate (entries t) fresh_entry
unfolding fresh_ledger_bytes
fresh_ledger_means t = fill_is t fresh_entry

zeros_mean : domain_at (replicate domain_size 0) ≡ fresh_domain
unfolding domain_at or_idle is_free given_at call_at owner_at owner_of stage_of number_at numbers_at
zeros_mean = refl

-- every call on a domain
pub domain_calls : (n : ℕ) → DomainCalls n
unfolding bind_start close_start set_priority raise_start unmask_start
domain_calls n = record {
  read_back = λ r d h e. domain_back r d (le-leb domain_size (length r) h) e;
  init_control_lem = init_means n;
  expand_array_lem = expand_means n;
  bind = λ p. on_port_lem n (starts_of n port_call.Bind) (port_at (narrow p)) (starts_busy n port_call.Bind (port_at (narrow p)));
  close = λ p. on_port_lem n (starts_of n port_call.Close) (port_at (narrow p)) (starts_busy n port_call.Close (port_at (narrow p)));
  set_priority_lem = λ p level. on_port_lem n (starts_of n (port_call.SetPriority (priority_at (narrow level)))) (port_at (narrow p)) (starts_busy n (port_call.SetPriority (priority_at (narrow level))) (port_at (narrow p)));
  raise = λ p. on_port_lem n (starts_of n port_call.Raise) (port_at (narrow p)) (starts_busy n port_call.Raise (port_at (narrow p)));
  unmask = λ p. on_port_lem n (starts_of n port_call.Unmask) (port_at (narrow p)) (starts_busy n port_call.Unmask (port_at (narrow p)));
  reply = reply_means n;
  due = due_means n;
  fresh = fresh_means;
  zeros = zeros_mean;
  fresh_ledger = fresh_ledger_means;
}
