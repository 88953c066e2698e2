-- The hypervisor's calls reach nothing outside and name at most twelve accesses: the invariant on the record and on the
-- number of accesses named, kept by every start and reply.
-- Assumes nothing.
use Prim.Native.Nat.{ℕ, zero, suc, ◌+◌, ◌-◌, ◌*◌, ◌≤◌, ◌<◌, min}
use mathlib.Core.Path.{◌≡◌, refl, sym, ap, subst, ◌∙◌}
use mathlib.Core.Bool.{Bool, true, false, cond, not, true≢false, false≢true}
use mathlib.Core.List.{List}
use mathlib.Core.Logic.{inl, inr, ⊎_elim, ◌≢◌}
use native.Mathlib.Omega.{arith}
use borrow.Author.Tests.{eqb-true, eqb-false, leb-true, leb-false, ltb-true, ltb-false}
use lib.ListN.{length, get_or, set, replicate, length-set}
use lib.Seq.{set_out, get_or-set_same, get_or-set_other}
use lib.Dec.{eqb, leb, ltb}
use Rattle.word.specs.declared.Port.{Port}
use Rattle.word.specs.declared.Queue.{Queue}
use Rattle.word.specs.declared.Flag.TheVariants.{Pending, Masked, Linked}
use Rattle.word.specs.Word.{has, queue_at}
use Rattle.word.specs.Effect.{cas_taken}
use Rattle.word.specs.Ready.{is_ready}
use Rattle.word.specs.Entry.{priority, last_queue, ever_linked, bound_entry, closed_entry}
use Rattle.word.proofs.EntryLaws.{priority_lt}
use Rattle.calls.specs.declared.types.Access.{Access}
use Rattle.calls.specs.declared.types.Answer.{Answer}
use Rattle.calls.specs.declared.types.Answer.TheVariants.{Done, StillLinked, UpcallWanted, LinkAbandoned, NoEntry}
use Rattle.calls.specs.declared.types.Next.{Next}
use Rattle.calls.specs.declared.types.Next.TheVariants as next
use Rattle.calls.specs.declared.types.Owner.{Owner}
use Rattle.calls.specs.declared.types.Owner.TheVariants as owner
use Rattle.calls.specs.declared.types.Stage.{Stage}
use Rattle.calls.specs.declared.types.Stage.TheVariants.{First, R2, R3, R4, SetBusy, ClearBusy, R5, R6}
use Rattle.calls.specs.declared.types.Call.{Call}
use Rattle.calls.specs.declared.types.Domain.{Domain}
use Rattle.calls.specs.declared.hypervisor.stage.Move.{Move}
use Rattle.calls.specs.Records.{one_more, is_free, call_at, with_call, fresh_domain}
use Rattle.calls.specs.Hypervisor.{Turn, goes_on, ends, ends_tailed, named, clearing, reply_r1, reply_u1, reply_bind, reply_close, reply_first_of, reply_first, stale_queue, after_r2, reply_r2, reply_r3, after_first_cas, after_later_cas, reply_r4, reply_set_busy, reply_clear_busy, reply_r5, reply_r6, staged_at, staged, view_of, moved, due_first, due_at, due, next_of, due_of}
use Rattle.calls.specs.Claims.{Act, is_reply, hypervisor_side, Counting, named_after, run_one}
use Rattle.calls.proofs.Cases.{choose, by_test, no_access, same_access, same_answer}
use Rattle.calls.proofs.RecordLaws.{is_port_lem, in_array_lem}
use Rattle.calls.proofs.HypervisorTurns.{entry_of, reply_move, at_start, sixteen, fourteen, Kind, refused, settled, begun, carried, kind}
use Rattle.calls.proofs.HypervisorClaims.{next_access, next_answer, names_due, counts_calls}
use Rattle.machine.specs.Memory.{place_of}
use Rattle.claims.specs.Reach.{PortInside, Inside, array_words, call_limit, CallsBounded}
use Rattle.claims.specs.Tails.{TailInside, TailsInside, TailsStayInside}
use Rattle.claims.proofs.SideReach.{always, bounded}

-- ---- the invariant

-- the most accesses that a call has named at a stage; t is its number of tries. From the second cas on the or is among them
abbrev most : Stage → ℕ → ℕ
most First t = 1
most R2 t = 2
most R3 t = 3
most R4 t = 3 + t + min 1 (t - 1)
most SetBusy t = 5
most ClearBusy t = 10
most R5 t = 11
most R6 t = 12

-- R3, R4, SetBusy and ClearBusy look at the tail
abbrev TailDue : Stage → ℕ → ℕ → Type 0
TailDue First words tail = Unit {0}
TailDue R2 words tail = Unit {0}
TailDue R3 words tail = PortInside words tail
TailDue R4 words tail = PortInside words tail
TailDue SetBusy words tail = PortInside words tail
TailDue ClearBusy words tail = PortInside words tail
TailDue R5 words tail = Unit {0}
TailDue R6 words tail = Unit {0}

-- a call that has named k accesses
record CallInside (words : ℕ) (tails : List ℕ) (c : Call) (k : ℕ) : Type 0 where
  port : PortInside words c.port.0
  queue : c.queue.0 < 16
  tries : c.tries ≤ 5
  length : k ≤ most c.stage c.tries
  tail : TailDue c.stage words (get_or tails c.queue.0 0)

record Invariant (s : Counting Domain) : Type 0 where
  tails : TailsInside s.state
  most : s.named ≤ call_limit
  call : is_free s.state.call.owner ≡ false → CallInside (array_words s.state) s.state.tails s.state.call s.named

-- ---- a step carried out

record MoveInside (words : ℕ) (tails : List ℕ) (k : ℕ) (m : Move) : Type 0 where
  tail : TailInside words m.tail
  call : is_free m.call.owner ≡ false → CallInside words (set tails m.queue.0 m.tail) m.call (k + 1)

some_tail : (words t : ℕ) → TailInside words t → eqb t 0 ≡ false → PortInside words t
some_tail words t (inl e) f = absurd (eqb-false t 0 f e)
some_tail words t (inr i) f = i

stale_other : (e : ℕ) (p : Port) (former : ℕ) → priority e ≢ (stale_queue e p (queue_at (priority e)) former).0
unfolding stale_queue
stale_other e p former =
    choose Other (not (ever_linked e)) none
    (by_test Other (eqb (last_queue e) (priority e)) (λ h. none)
    (λ h. choose Other (eqb former p.0) (λ f. eqb-false _ _ h (sym f)) none))
  where
    Other : Queue → Type 0
    Other q = priority e ≢ q.0

    none : Other (queue_at 16)
    none f = omega (arith, priority_lt e)

module _ (words : ℕ) (tails : List ℕ) (size : length tails ≡ 16) (inside : (q : ℕ) → TailInside words (get_or tails q 0)) (c : Call) (k : ℕ) (port : PortInside words c.port.0) where
  abbrev Moves : Move → Type 0
  Moves m = MoveInside words tails k m

  ended : (e : ℕ) (a : Answer) (count : ℕ) → Moves (ends e a count)
  unfolding is_free
  ended e a count = record { tail = inl refl; call = λ f. absurd (true≢false f) }

  tailed : (e : ℕ) (a : Answer) → Moves (ends_tailed e c a)
  unfolding is_free
  tailed e a = record { tail = inr port; call = λ f. absurd (true≢false f) }

  goes : (e : ℕ) {c' : Call} → CallInside words tails c' (k + 1) → Moves (goes_on e c')
  goes e i = record { tail = inl refl; call = λ f. rw (set_out tails 16 0 (omega arith)) i }

  module _ (e seen : ℕ) where
    -- R1 and U1
    asks : k ≤ 1 → (b b' : Bool) → Moves (cond b (ends e Done c.count) (cond b' (ends e Done c.count) (goes_on e (named c R2 (queue_at 0)))))
    asks h b b' =
        choose Moves b (ended e Done _)
        (choose Moves b' (ended e Done _)
        (goes e (record { port = port; queue = omega arith; tries = omega arith; length = omega arith; tail = tt })))

    first : k ≤ 1 → (o : Owner) → Moves (reply_first_of o c e seen)
    unfolding reply_r1 reply_u1 reply_bind reply_close
    first h owner.None = ended e _ 0
    first h owner.Bind = choose Moves (has Linked seen) (ended e StillLinked _) (ended (bound_entry e) Done _)
    first h owner.Close = ended (closed_entry e) Done _
    first h owner.Raise = asks h (has Masked seen) (has Linked seen)
    first h owner.Unmask = asks h (not (has Pending seen)) (has Linked seen)

    -- the call after R2, whose tails have lost that of queue `stale`
    chooses : k ≤ 2 → (stale : ℕ) → priority e ≢ stale →
        CallInside words (set tails stale 0) (after_r2 c (queue_at (priority e)) (get_or tails (priority e) 0)) (k + 1)
    unfolding after_r2
    chooses h stale other =
        by_test After (eqb (get_or tails (priority e) 0) 0) (λ f. stores)
        (λ f. choose After (eqb (get_or tails (priority e) 0) c.port.0) stores
        (record { port = port; queue = priority_lt e; tries = omega arith; length = omega arith; tail = rw (get_or-set_other tails stale (priority e) 0 0 other) (some_tail words _ (inside (priority e)) f) }))
      where
        After : Call → Type 0
        After c' = CallInside words (set tails stale 0) c' (k + 1)

        stores : After (named c R5 (queue_at (priority e)))
        stores = record { port = port; queue = priority_lt e; tries = omega arith; length = omega arith; tail = tt }

    links : k ≤ 2 → (former : ℕ) → Moves (reply_r2 c e (record { tail = get_or tails (priority e) 0; former = former }) seen)
    unfolding reply_r2
    links h former =
        choose Moves (has Linked seen) (ended e Done _)
        (record { tail = inl refl; call = λ f. chooses h _ (stale_other e c.port former) })

    module _ (queue : c.queue.0 < 16) where
      -- the call goes on at stage s on its queue
      names : (s : Stage) (w t : ℕ) → t ≤ 5 → k + 1 ≤ most s t → TailDue s words (get_or tails c.queue.0 0) →
          Moves (goes_on e (record { owner = c.owner; stage = s; port = c.port; queue = c.queue; word = w; tries = t; count = one_more c.count }))
      names s w t few h tail = goes e (record { port = port; queue = queue; tries = few; length = h; tail = tail })

      -- R4, where the tail is inside
      module _ (t : c.tries ≤ 5) (h : k ≤ most R4 c.tries) (tail : PortInside words (get_or tails c.queue.0 0)) where
        first_cas : c.tries ≤ 1 → Moves (after_first_cas c e seen)
        unfolding after_first_cas
        first_cas l = choose Moves (not (has Linked seen)) (names R5 0 0 (omega arith) (omega arith) tt) (names SetBusy 0 0 (omega arith) (omega arith) tail)

        later_cas : 1 < c.tries → Moves (after_later_cas c e seen)
        unfolding after_later_cas
        later_cas l =
            choose Moves (not (has Linked seen)) clears
            (by_test Moves (leb 5 c.tries) (λ f. clears) (λ f. names R4 seen (c.tries + 1) (omega (arith, leb-false 5 c.tries f)) (omega arith) tail))
          where
            clears : Moves (goes_on e (clearing c seen))
            clears = names ClearBusy seen 0 (omega arith) (omega arith) tail

        compares : Moves (reply_r4 c e seen)
        unfolding reply_r4
        compares =
            choose Moves (cas_taken seen c.word) (tailed e Done)
            (by_test Moves (leb c.tries 1) (λ f. first_cas (leb-true c.tries 1 f)) (λ f. later_cas (leb-false c.tries 1 f)))

      steps : (s : Stage) → c.tries ≤ 5 → k ≤ most s c.tries → TailDue s words (get_or tails c.queue.0 0) → (former : ℕ) →
          Moves (staged_at s c e (record { tail = get_or tails (priority e) 0; former = former }) seen)
      unfolding reply_first reply_r3 reply_set_busy reply_clear_busy reply_r5 reply_r6
      steps First t h tail former = first h c.owner
      steps R2 t h tail former = links h former
      steps R3 t h tail former = choose Moves (not (has Linked seen)) (names R5 0 0 (omega arith) (omega arith) tt) (names R4 seen 1 (omega arith) (omega arith) tail)
      steps R4 t h tail former = compares t h tail
      steps SetBusy t h tail former = choose Moves (not (has Linked seen)) (names ClearBusy seen 0 (omega arith) (omega arith) tail) (names R4 _ 2 (omega arith) (omega arith) tail)
      steps ClearBusy t h tail former = choose Moves (has Linked c.word) (tailed e LinkAbandoned) (names R5 0 0 (omega arith) (omega arith) tt)
      steps R5 t h tail former = record { tail = inr port; call = λ f. record { port = port; queue = queue; tries = omega arith; length = omega arith; tail = tt } }
      steps R6 t h tail former = choose Moves (is_ready c.queue.0 seen) (ended e Done _) (ended e UpcallWanted _)

-- ---- what a record's call waits for

module _ (words : ℕ) (tail : ℕ) (c : Call) (port : PortInside words c.port.0) (queue : c.queue.0 < 16) where
  first_inside : (o : Owner) → Inside words (place_of (due_first o c.port))
  unfolding place_of due_first
  first_inside owner.None = port
  first_inside owner.Bind = port
  first_inside owner.Close = port
  first_inside owner.Raise = port
  first_inside owner.Unmask = port

  due_inside : (n : ℕ) (s : Stage) → TailDue s words tail → Inside words (place_of (due_at n s c tail))
  unfolding place_of
  due_inside n First t = first_inside c.owner
  due_inside n R2 t = port
  due_inside n R3 t = t
  due_inside n R4 t = t
  due_inside n SetBusy t = t
  due_inside n ClearBusy t = t
  due_inside n R5 t = queue
  due_inside n R6 t = tt

-- ---- every turn keeps the invariant

wider : {words more t : ℕ} → words ≤ more → PortInside words t → PortInside more t
wider h i = record { positive = i.positive; below = omega arith }

wider_due : (s : Stage) (words more t : ℕ) → words ≤ more → TailDue s words t → TailDue s more t
wider_due First words more t h i = tt
wider_due R2 words more t h i = tt
wider_due R3 words more t h i = wider h i
wider_due R4 words more t h i = wider h i
wider_due SetBusy words more t h i = wider h i
wider_due ClearBusy words more t h i = wider h i
wider_due R5 words more t h i = tt
wider_due R6 words more t h i = tt

tails_set : (words : ℕ) (tails : List ℕ) (j v : ℕ) → TailInside words v → ((q : ℕ) → TailInside words (get_or tails q 0)) → (q : ℕ) → TailInside words (get_or (set tails j v) q 0)
tails_set words tails j v h i q = go (eqb q j) refl (ltb j (length tails)) refl
  where
    go : (b : Bool) → eqb q j ≡ b → (inside : Bool) → ltb j (length tails) ≡ inside → TailInside words (get_or (set tails j v) q 0)
    go false e inside l = rw (get_or-set_other tails j q v 0 (eqb-false q j e)) (i q)
    go true e true l = rw (eqb-true q j e, get_or-set_same tails j v 0 (ltb-true _ _ l)) h
    go true e false l = rw (set_out tails j v (ltb-false _ _ l)) (i q)

at_most : (s : Stage) (t k : ℕ) → t ≤ 5 → k ≤ most s t → k ≤ call_limit
at_most First t k h l = omega arith
at_most R2 t k h l = omega arith
at_most R3 t k h l = omega arith
at_most R4 t k h l = omega arith
at_most SetBusy t k h l = omega arith
at_most ClearBusy t k h l = omega arith
at_most R5 t k h l = omega arith
at_most R6 t k h l = omega arith

module _ (n : ℕ) (d : Domain) (k : ℕ) (i : Invariant (record { state = d; named = k })) where
  -- the record d', and what is given, after an act on d
  abbrev Kept : Bool → Domain → Next → Type 0
  Kept reply d' x = Invariant (record { state = d'; named = named_after reply x k })

  carried_keeps : (m : Move) → MoveInside (array_words d) d.tails k m → Kept true (moved d m) (next_of n (moved d m) m.answer m.count)
  unfolding moved
  carried_keeps m h = go (is_free m.call.owner) refl
    where
      tails : TailsInside (moved d m)
      tails = record { size = length-set d.tails _ _ ∙ i.tails.size; tails = tails_set (array_words d) d.tails _ _ h.tail i.tails.tails }

      go : (free : Bool) → is_free m.call.owner ≡ free → Kept true (moved d m) (next_of n (moved d m) m.answer m.count)
      go true e = rw (next_answer n (moved d m) m.answer m.count e) (record { tails = tails; most = i.most; call = λ f. absurd (true≢false (sym e ∙ f)) })
      go false e =
          rw (next_access n (moved d m) m.answer m.count e)
          (record { tails = tails; most = at_most m.call.stage m.call.tries (k + 1) (h.call e).tries (h.call e).length; call = h.call })

  keeps_turn : {act : Act} {t : Turn} → Kind n d act t → Kept (is_reply act) t.outcome.domain t.outcome.next
  unfolding staged view_of
  keeps_turn (refused h) = i
  keeps_turn (settled {pages = pages} h more b) =
      record {
        tails = record { size = i.tails.size; tails = λ q. ⊎_elim inl (λ t. inr (wider (omega arith) t)) (i.tails.tails q) };
        most = i.most;
        call = λ f. let j = i.call f in
            record { port = wider (omega arith) j.port; queue = j.queue; tries = j.tries; length = j.length; tail = wider_due d.call.stage (array_words d) (1024 * pages) _ (omega arith) j.tail };
      }
  keeps_turn (begun {o = o} {p = p} busy on) =
      rw (next_access n (with_call d (call_at o First p (queue_at 0) 1)) Done 0 busy)
      (record { tails = record { size = i.tails.size; tails = i.tails.tails }; most = omega arith; call = λ f. record { port = record { positive = is_port_lem n p.0 on.port; below = in_array_lem d.pages p.0 on.inside }; queue = omega arith; tries = omega arith; length = omega arith; tail = tt } })
  keeps_turn (carried {seen = seen} {ledger = ledger} busy kept) =
      let j = i.call busy in
      carried_keeps (reply_move d ledger seen) (steps (array_words d) d.tails i.tails.size i.tails.tails d.call k j.port (entry_of d ledger) seen j.queue d.call.stage j.tries j.length j.tail _)

-- ---- the claims

keeps : (n : ℕ) (s : Counting Domain) → Invariant s → (act : Act) → Invariant (run_one (hypervisor_side n) s act)
keeps n s i act = keeps_turn n s.state s.named i (kind n s.state act)

pub zeros : (m q : ℕ) → get_or (replicate {A = ℕ} m 0) q 0 ≡ 0
zeros zero q = refl
zeros (suc m) zero = refl
zeros (suc m) (suc q) = zeros m q

starts : Invariant (record { state = fresh_domain; named = 0 })
unfolding is_free
starts = record { tails = record { size = refl; tails = λ q. inl (zeros 16 q) }; most = omega arith; call = λ f. absurd (true≢false f) }

waits_inside : (n : ℕ) (s : Counting Domain) → Invariant s → (x : Access) → due_of n s.state ≡ next.Access x → Inside (array_words s.state) (place_of x)
unfolding next_of due
waits_inside n s i x =
    by_test (λ y. y ≡ next.Access x → Inside (array_words s.state) (place_of x)) (is_free s.state.call.owner)
    (λ h e. absurd (no_access e))
    (λ h e. let j = i.call h in subst (λ y. Inside (array_words s.state) (place_of y)) (same_access e) (due_inside _ _ s.state.call j.port j.queue n s.state.call.stage j.tail))

ends_turn : (n : ℕ) (d : Domain) {act : Act} {t : Turn} → Kind n d act t → (a : Answer) (count : ℕ) → is_reply act ≡ true → t.outcome.next ≡ next.Answer a count → a ≢ NoEntry → not (is_free t.outcome.domain.call.owner) ≡ false
ends_turn n d (refused (at_start h)) a count r e f = absurd (false≢true r)
ends_turn n d (refused (sixteen h)) a count r e f = ap not h
ends_turn n d (refused (fourteen h l)) a count r e f = absurd (f (sym (same_answer e)))
ends_turn n d (settled h more b) a count r e f = absurd (false≢true r)
ends_turn n d (begun busy on) a count r e f = absurd (false≢true r)
ends_turn n d (carried {seen = seen} {ledger = ledger} busy kept) a count r e f = go (is_free (moved d m).call.owner) refl
  where
    m : Move
    m = reply_move d ledger seen

    go : (free : Bool) → is_free (moved d m).call.owner ≡ free → not free ≡ false
    go true h = refl
    go false h = absurd (no_access (sym e ∙ next_access n (moved d m) m.answer m.count h))

pub calls_bounded : CallsBounded
unfolding is_free
calls_bounded n =
    bounded (hypervisor_side n) Invariant array_words call_limit
    (record {
      starts = starts;
      keeps = keeps n;
      length = λ s i. i.most;
      due = waits_inside n;
      ends = λ d act a count o. ends_turn n d (kind n d act) a count;
      free = refl;
    })
    (names_due n) (counts_calls n)

pub tails_stay_inside : TailsStayInside
tails_stay_inside n acts = (always (hypervisor_side n) Invariant (keeps n) _ starts acts).tails
