-- The hypervisor's calls and replies keep their record's numbers small and give small answers, and the access that is due is small.
-- Assumes nothing.
use Rattle.std.specs.Prelude.{Result, Ok, Err}
use Prim.Native.Nat.{ℕ}
use mathlib.Core.Path.{refl}
use mathlib.Core.Bool.{Bool, cond, not}
use mathlib.Core.List.{List}
use native.Mathlib.Omega.{arith}
use borrow.Author.Tests.{not-false}
use lib.Dec.{eqb, leb, ltb, lit≤}
use lib.ListN.{get_or, length}
use Rattle.word.specs.declared.Port.{Port}
use Rattle.word.specs.declared.Queue.{Queue}
use Rattle.word.specs.declared.Priority.{Priority}
use Rattle.word.specs.declared.Flag.TheVariants.{Pending, Masked, Linked, Busy}
use Rattle.word.specs.Word.{has, mask, queue_at, Width}
use Rattle.word.specs.Effect.{cas_taken}
use Rattle.word.specs.Ready.{is_ready}
use Rattle.word.specs.Entry.{priority, bound}
use Rattle.word.proofs.WordLaws.{mask_lt, all_but-lt, with_link-lt}
use Rattle.word.proofs.EffectLaws.{or_lt_32, and_lt_32}
use Rattle.word.proofs.ReadyLaws.{ready_mask-lt}
use Rattle.word.proofs.EntryLaws.{priority_lt}
use Rattle.calls.specs.declared.types.Answer.{Answer}
use Rattle.calls.specs.declared.types.Answer.TheVariants.{Done}
use Rattle.calls.specs.declared.types.Owner.{Owner}
use Rattle.calls.specs.declared.types.Owner.TheVariants as owner
use Rattle.calls.specs.declared.types.Stage.{Stage}
use Rattle.calls.specs.declared.types.Stage.TheVariants.{First, R2, R3, R4, SetBusy, ClearBusy, R5, R6}
use Rattle.calls.specs.declared.types.Call.{Call}
use Rattle.calls.specs.declared.types.Domain.{Domain}
use Rattle.calls.specs.declared.types.Outcome.{Outcome}
use Rattle.calls.specs.declared.hypervisor.stage.View.{View}
use Rattle.calls.specs.declared.hypervisor.stage.Move.{Move}
use Rattle.calls.specs.declared.hypervisor.start.Begun.{Begun}
use Rattle.calls.specs.declared.hypervisor.start.Begun.TheVariants as begin
use Rattle.calls.specs.Answers.{code_of}
use Rattle.calls.specs.Records.{page_limit, is_port, in_array, entry_at, is_free, idle_call, with_call}
use Rattle.calls.specs.Hypervisor.{Turn, is_offset, accept_init, accept_expand, entry_or14, accept_port, first_access, bind_entry, close_entry, priority_entry, link_entry, begin_bind, begin_close, begin_priority, begin_link, goes_on, ends, ends_tailed, named, reply_r1, reply_u1, reply_bind, reply_close, reply_first_of, reply_first, after_r2, reply_r2, comparing, clearing, reply_r3, after_first_cas, after_later_cas, reply_r4, reply_set_busy, reply_clear_busy, reply_r5, reply_r6, staged_at, staged, due_first, due_at, due, next_of, init_control_of, init_control, expand_array_of, expand_array, started, bind_start, close_start, set_priority, raise_start, unmask_start, view_of, moved, reply_found, reply_of}
use Rattle.calls.specs.Claims.{Start, InitControl, ExpandArray, Bind, Close, Raise, Unmask, SetPriority, start_of}
use Rattle.calls.proofs.Cases.{choose, by_test}
use Rattle.claims.specs.Numbers.{Small, SmallAccess, SmallAnswer, SmallCall, SmallDomain}
use Rattle.claims.proofs.NumberLaws.{SmallNext, small_at, set_small, answer_small, port_small}

pub record SmallOutcome (o : Outcome) : Type 0 where
  pub domain : SmallDomain o.domain
  pub next : SmallNext o.next

-- ---- what the rows of refusals come to

data SmallAcceptance : Result Unit Answer → Type 0 where
  refuses : {a : Answer} → SmallAnswer a → SmallAcceptance (Err a)
  accepts : SmallAcceptance (Ok tt)

data SmallPort (p : Port) : Result ℕ Answer → Type 0 where
  refuses_port : {a : Answer} → SmallAnswer a → SmallPort p (Err a)
  accepts_port : {e : ℕ} → Small p.0 → SmallPort p (Ok e)

data SmallBegin : Result Begun Answer → Type 0 where
  refuses_call : {a : Answer} → SmallAnswer a → SmallBegin (Err a)
  begins : {c : Call} → SmallCall c → SmallBegin (Ok (begin.UnderWay c))
  settles : {e : ℕ} → SmallBegin (Ok (begin.Settled e))

accepts_init : (o : Owner) (given : Bool) (vcpu frame frames offset : ℕ) → SmallAcceptance (accept_init o given vcpu frame frames offset)
unfolding accept_init code_of
accepts_init o given vcpu frame frames offset =
    choose SmallAcceptance (not (is_free o)) (refuses (answer_small refl))
    (choose SmallAcceptance (not (eqb vcpu 0)) (refuses (answer_small refl))
    (choose SmallAcceptance given (refuses (answer_small refl))
    (choose SmallAcceptance (leb frames frame) (refuses (answer_small refl))
    (choose SmallAcceptance (not (is_offset offset)) (refuses (answer_small refl)) accepts))))

accepts_expand : (n : ℕ) (o : Owner) (given : Bool) (pages frame frames : ℕ) → SmallAcceptance (accept_expand n o given pages frame frames)
unfolding accept_expand code_of
accepts_expand n o given pages frame frames =
    choose SmallAcceptance (not (is_free o)) (refuses (answer_small refl))
    (choose SmallAcceptance (not given) (refuses (answer_small refl))
    (choose SmallAcceptance (leb (page_limit n) pages) (refuses (answer_small refl))
    (choose SmallAcceptance (leb frames frame) (refuses (answer_small refl)) accepts)))

module _ (p : Port) where
  accepts_port_lem : {n : ℕ} → Width n → (o : Owner) (given : Bool) (ledger : List ℕ) → SmallPort p (accept_port n o given p (entry_at ledger p.0))
  unfolding accept_port entry_at code_of
  accepts_port_lem {n} wide o given ledger =
      choose (SmallPort p) (not (is_free o)) (refuses_port (answer_small refl))
      (choose (SmallPort p) (not given) (refuses_port (answer_small refl))
      (by_test (SmallPort p) (not (is_port n p.0)) (λ h. refuses_port (answer_small refl))
      (λ h. choose (λ found. SmallPort p (entry_or14 found)) (ltb p.0 (length ledger)) (accepts_port (port_small wide p.0 (not-false _ h))) (refuses_port (answer_small refl)))))

  begins_first : (o : Owner) → Small p.0 → SmallBegin (Ok (first_access o p))
  begins_first o h = begins (record { port = h; queue = lit≤ tt; word = lit≤ tt })

  module _ (pages : ℕ) where
    begins_bind : {a : Result ℕ Answer} → SmallPort p a → SmallBegin (bind_entry pages p a)
    unfolding code_of
    begins_bind (refuses_port h) = refuses_call h
    begins_bind (accepts_port {e} h) = choose SmallBegin (bound e) (refuses_call (answer_small refl)) (choose SmallBegin (in_array pages p.0) (begins_first owner.Bind h) settles)

    begins_close : {a : Result ℕ Answer} → SmallPort p a → SmallBegin (close_entry pages p a)
    unfolding code_of
    begins_close (refuses_port h) = refuses_call h
    begins_close (accepts_port {e} h) = choose SmallBegin (not (bound e)) (refuses_call (answer_small refl)) (choose SmallBegin (in_array pages p.0) (begins_first owner.Close h) settles)

    begins_link : (o : Owner) {a : Result ℕ Answer} → SmallPort p a → SmallBegin (link_entry o pages p a)
    unfolding code_of
    begins_link o (refuses_port h) = refuses_call h
    begins_link o (accepts_port {e} h) = choose SmallBegin (not (bound e)) (refuses_call (answer_small refl)) (choose SmallBegin (not (in_array pages p.0)) (refuses_call (answer_small refl)) (begins_first o h))

  begins_priority : (r : Priority) {a : Result ℕ Answer} → SmallPort p a → SmallBegin (priority_entry r a)
  unfolding code_of
  begins_priority r (refuses_port h) = refuses_call h
  begins_priority r (accepts_port h) = choose SmallBegin (ltb 15 r.0) (refuses_call (answer_small refl)) settles

-- ---- a step carried out

record SmallMove (m : Move) : Type 0 where
  tail : Small m.tail
  call : SmallCall m.call
  answer : SmallAnswer m.answer

pub idle_call_small : SmallCall idle_call
idle_call_small = record { port = lit≤ tt; queue = lit≤ tt; word = lit≤ tt }

module _ (c : Call) (i : SmallCall c) where
  ended : (e : ℕ) (a : Answer) (count : ℕ) → SmallAnswer a → SmallMove (ends e a count)
  ended e a count h = record { tail = lit≤ tt; call = idle_call_small; answer = h }

  tailed : (e : ℕ) (a : Answer) → SmallAnswer a → SmallMove (ends_tailed e c a)
  tailed e a h = record { tail = i.port; call = idle_call_small; answer = h }

  naming : (s : Stage) (q : Queue) → Small q.0 → SmallCall (named c s q)
  naming s q h = record { port = i.port; queue = h; word = lit≤ tt }

  goes : (e : ℕ) {c' : Call} → SmallCall c' → SmallMove (goes_on e c')
  unfolding code_of
  goes e h = record { tail = lit≤ tt; call = h; answer = answer_small refl }

  module _ (e seen : ℕ) where
    -- R1 and U1
    asks : (b b' : Bool) → SmallMove (cond b (ends e Done c.count) (cond b' (ends e Done c.count) (goes_on e (named c R2 (queue_at 0)))))
    unfolding code_of
    asks b b' = choose SmallMove b (ended e Done _ (answer_small refl)) (choose SmallMove b' (ended e Done _ (answer_small refl)) (goes e (naming R2 (queue_at 0) (lit≤ tt))))

    first : (o : Owner) → SmallMove (reply_first_of o c e seen)
    unfolding reply_r1 reply_u1 reply_bind reply_close code_of
    first owner.None = ended e _ 0 (answer_small refl)
    first owner.Bind = choose SmallMove (has Linked seen) (ended e _ _ (answer_small refl)) (ended _ Done _ (answer_small refl))
    first owner.Close = ended _ Done _ (answer_small refl)
    first owner.Raise = asks (has Masked seen) (has Linked seen)
    first owner.Unmask = asks (not (has Pending seen)) (has Linked seen)

    links : (v : View) → SmallMove (reply_r2 c e v seen)
    unfolding reply_r2 after_r2 code_of
    links v =
        choose SmallMove (has Linked seen) (ended e Done _ (answer_small refl))
        (record { tail = lit≤ tt; call = choose SmallCall (eqb v.tail 0) (on R5) (choose SmallCall (eqb v.tail c.port.0) (on R5) (on R3)); answer = answer_small refl })
      where
        on : (s : Stage) → SmallCall (named c s (queue_at (priority e)))
        on s = naming s (queue_at (priority e)) (let l = priority_lt e in omega arith)

    stores : SmallMove (goes_on e (named c R5 c.queue))
    stores = goes e (naming R5 c.queue i.queue)

    module _ (h : Small seen) where
      compares : (tries w : ℕ) → Small w → SmallMove (goes_on e (comparing c tries w))
      compares tries w l = goes e (record { port = i.port; queue = i.queue; word = l })

      clears : SmallMove (goes_on e (clearing c seen))
      clears = goes e (record { port = i.port; queue = i.queue; word = h })

      later_cas : SmallMove (after_later_cas c e seen)
      unfolding after_later_cas
      later_cas = choose SmallMove (not (has Linked seen)) clears (choose SmallMove (leb 5 c.tries) clears (compares _ seen h))

      steps : (s : Stage) (v : View) → SmallMove (staged_at s c e v seen)
      unfolding reply_first reply_r3 after_first_cas reply_r4 reply_set_busy reply_clear_busy reply_r5 reply_r6 code_of
      steps First v = first c.owner
      steps R2 v = links v
      steps R3 v = choose SmallMove (not (has Linked seen)) stores (compares 1 seen h)
      steps R4 v =
          choose SmallMove (cas_taken seen c.word) (tailed e Done (answer_small refl))
          (choose SmallMove (leb c.tries 1) (choose SmallMove (not (has Linked seen)) stores (goes e (naming SetBusy c.queue i.queue))) later_cas)
      steps SetBusy v = choose SmallMove (not (has Linked seen)) clears (compares 2 _ (or_lt_32 seen (mask Busy) h (mask_lt Busy)))
      steps ClearBusy v = choose SmallMove (has Linked c.word) (tailed e _ (answer_small refl)) stores
      steps R5 v = record { tail = i.port; call = naming R6 c.queue i.queue; answer = answer_small refl }
      steps R6 v = choose SmallMove (is_ready c.queue.0 seen) (ended e _ _ (answer_small refl)) (ended e _ _ (answer_small refl))

-- ---- what a call waits for

first_small : (o : Owner) (p : Port) → Small p.0 → SmallAccess (due_first o p)
unfolding due_first
first_small owner.None p h = h
first_small owner.Bind p h = h
first_small owner.Close p h = (h, all_but-lt Pending)
first_small owner.Raise p h = (h, mask_lt Pending)
first_small owner.Unmask p h = (h, all_but-lt Masked)

module _ {n : ℕ} (wide : Width n) where
  due_small : (c : Call) → SmallCall c → (tail : ℕ) → Small tail → (s : Stage) → SmallAccess (due_at n s c tail)
  due_small c i tail t First = first_small c.owner c.port i.port
  due_small c i tail t R2 = (i.port, mask_lt Linked)
  due_small c i tail t R3 = t
  due_small c i tail t R4 = (t, i.word, with_link-lt wide _ c.port.0 (and_lt_32 c.word _ i.word))
  due_small c i tail t SetBusy = (t, mask_lt Busy)
  due_small c i tail t ClearBusy = (t, all_but-lt Busy)
  due_small c i tail t R5 = (i.queue, i.port)
  due_small c i tail t R6 = (tt, let l = ready_mask-lt c.queue.0 in omega arith)

  pub next_small : (d : Domain) → SmallDomain d → (a : Answer) (count : ℕ) → SmallAnswer a → SmallNext (next_of n d a count)
  unfolding next_of due
  next_small d i a count h = choose SmallNext (is_free d.call.owner) h (due_small d.call i.call _ (small_at d.tails i.tails d.call.queue.0) d.call.stage)

-- ---- every start and reply

module _ {n : ℕ} (wide : Width n) (d : Domain) (i : SmallDomain d) where
  init_small : {a : Result Unit Answer} → SmallAcceptance a → SmallOutcome (init_control_of n d a)
  unfolding code_of
  init_small (refuses h) = record { domain = i; next = h }
  init_small accepts = record { domain = record { tails = i.tails; call = i.call }; next = record { number = lit≤ tt; value = omega arith } }

  expand_small : {a : Result Unit Answer} → SmallAcceptance a → SmallOutcome (expand_array_of d a)
  unfolding code_of
  expand_small (refuses h) = record { domain = i; next = h }
  expand_small accepts = record { domain = record { tails = i.tails; call = i.call }; next = answer_small refl }

  started_small : (ledger : List ℕ) (p : Port) {b : Result Begun Answer} → SmallBegin b → SmallOutcome (started n d ledger p b).outcome
  unfolding started code_of
  started_small ledger p (refuses_call h) = record { domain = i; next = h }
  started_small ledger p (begins {c} h) =
      let begun : SmallDomain (with_call d c) = record { tails = i.tails; call = h } in
      record { domain = begun; next = next_small wide (with_call d c) begun Done 0 (answer_small refl) }
  started_small ledger p settles = record { domain = i; next = answer_small refl }

  pub start_small : (s : Start) (ledger : List ℕ) → SmallOutcome (start_of n d s ledger).outcome
  unfolding init_control expand_array bind_start close_start set_priority raise_start unmask_start begin_bind begin_close begin_priority begin_link
  start_small (InitControl vcpu frame frames offset) ledger = init_small (accepts_init _ _ vcpu frame frames offset)
  start_small (ExpandArray frame frames) ledger = expand_small (accepts_expand n _ _ _ frame frames)
  start_small (Bind p) ledger = started_small ledger p (begins_bind p _ (accepts_port_lem p wide _ _ ledger))
  start_small (Close p) ledger = started_small ledger p (begins_close p _ (accepts_port_lem p wide _ _ ledger))
  start_small (Raise p) ledger = started_small ledger p (begins_link p _ owner.Raise (accepts_port_lem p wide _ _ ledger))
  start_small (Unmask p) ledger = started_small ledger p (begins_link p _ owner.Unmask (accepts_port_lem p wide _ _ ledger))
  start_small (SetPriority p r) ledger = started_small ledger p (begins_priority p r (accepts_port_lem p wide _ _ ledger))

  moved_small : (m : Move) → SmallMove m → SmallDomain (moved d m)
  unfolding moved
  moved_small m h = record { tails = set_small d.tails _ _ i.tails h.tail; call = h.call }

  pub reply_small : (ledger : List ℕ) (seen : ℕ) → Small seen → SmallOutcome (reply_of n d ledger seen).outcome
  unfolding reply_of entry_at staged code_of
  reply_small ledger seen h =
      choose (λ (t : Turn). SmallOutcome t.outcome) (is_free d.call.owner) (record { domain = i; next = answer_small refl })
      (choose (λ found. SmallOutcome (reply_found n d ledger seen found).outcome) (ltb d.call.port.0 (length ledger)) carried (record { domain = i; next = answer_small refl }))
    where
      e : ℕ
      e = get_or ledger d.call.port.0 0

      m : Move
      m = staged d.call e (view_of d e) seen

      small : SmallMove m
      small = steps d.call i.call e seen h d.call.stage (view_of d e)

      carried : SmallOutcome (record { domain = moved d m; next = next_of n (moved d m) m.answer m.count })
      carried = record { domain = moved_small m small; next = next_small wide (moved d m) (moved_small m small) m.answer m.count small.answer }
