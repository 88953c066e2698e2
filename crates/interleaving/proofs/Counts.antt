-- The count in an answer is the number of accesses that the call made.
-- Assumes nothing.
use Rattle.std.specs.Prelude.{Result, Ok, Err}
use mathlib.Core.Path.{◌≡◌, refl, sym, ◌∙◌, subst}
use mathlib.Core.Bool.{Bool, true, false, cond, not}
use mathlib.Core.List.{List, [], ◌∷◌, ◌++◌}
use Prim.Native.Nat.{ℕ, suc, ◌+◌, ◌-◌, ◌≤◌, ◌<◌}
use native.Mathlib.Omega.{arith}
use lib.Dec.{eqb, leb, lit≤}
use lib.ListN.{length, set}
use borrow.Author.Tests.{lt-ltb, ne_eqb}
use Rattle.word.specs.declared.Port.{Port}
use Rattle.word.specs.declared.Flag.TheVariants.{Pending, Masked, Linked}
use Rattle.word.specs.Word.{has, Width, queue_at}
use Rattle.word.specs.Effect.{cas_taken}
use Rattle.word.specs.Ready.{is_ready}
use Rattle.calls.specs.declared.types.Answer.{Answer}
use Rattle.calls.specs.declared.types.Answer.TheVariants.{Done, LinkBits, NoCall}
use Rattle.calls.specs.declared.types.Next.{Next}
use Rattle.calls.specs.declared.types.Next.TheVariants as next
use Rattle.calls.specs.declared.types.Made.{Made}
use Rattle.calls.specs.declared.types.Refused.{Refused}
use Rattle.calls.specs.declared.types.GuestOutcome.{GuestOutcome}
use Rattle.calls.specs.declared.types.Owner.{Owner}
use Rattle.calls.specs.declared.types.Owner.TheVariants as owner
use Rattle.calls.specs.declared.types.Stage.{Stage}
use Rattle.calls.specs.declared.types.Stage.TheVariants as stage
use Rattle.calls.specs.declared.types.Call.{Call}
use Rattle.calls.specs.declared.hypervisor.stage.View.{View}
use Rattle.calls.specs.declared.hypervisor.stage.Move.{Move}
use Rattle.calls.specs.declared.types.Access.{Access}
use Rattle.calls.specs.declared.hypervisor.start.Begun.{Begun}
use Rattle.calls.specs.declared.hypervisor.start.Begun.TheVariants as begin
use Rattle.calls.specs.Guest.{service_start, mask_of, tell_of}
use Rattle.calls.specs.ClearMask.{clear_mask_start, guest_reply, guest_due_of}
use Rattle.calls.specs.Hypervisor as hypervisor
use Rattle.machine.specs.Memory.{Memory, performed}
use Rattle.machine.specs.Exec as Exec
use Rattle.machine.specs.Exec.{World, Advanced, world_after, step_of, list_of, guest_answer, guest_step, guest_replied, start_step, turned, guest_start_of, guest_access, perform_masking, perform_mask, perform_guest_next, perform_guest, perform_side, hand_back, expand_of, start_of, advance_of, exec, exec_all}
use Rattle.machine.specs.declared.types.Start.{Start}
use Rattle.machine.specs.declared.types.Start.TheVariants.{InitControl, ExpandArray, Bind, Close, SetPriority, Raise, Unmask}
use Rattle.machine.specs.declared.types.GuestStart.TheVariants.{Service, Mask, ClearMask, Tell}
use Rattle.machine.specs.declared.types.Event.{Event}
use Rattle.machine.specs.declared.types.Event.TheVariants.{Nothing, GuestAccess, ClearAccess}
use Rattle.queue.specs.Budget.{most_tries}
use Rattle.machine.specs.declared.types.Side.TheVariants as side
use Rattle.machine.specs.declared.types.Step.{Step}
use Rattle.machine.specs.declared.types.Step.TheVariants as step
use Rattle.interleaving.specs.Fresh.{fresh_world}
use Rattle.interleaving.specs.Rules.{Allowed, KeepsRules}
use Rattle.interleaving.specs.Lengths.{is_first}
use Rattle.interleaving.specs.Counts.{OneMore, Counted, CountsOfEvents}
use Rattle.interleaving.proofs.Good.{Good, Kept}
use Rattle.interleaving.proofs.Steps.{reply_free, perform_free, step_kept}
use Rattle.interleaving.proofs.Theorem.{fresh_good}
use Rattle.interleaving.proofs.Carried.{carried, perform_carried}
use Rattle.interleaving.proofs.Starts.{BeginFacts, port_facts, bind_facts, close_facts, priority_facts, link_facts}
use Rattle.calls.specs.Records.{one_more, is_free, is_clearing, entry_at}
use Rattle.word.specs.Entry.{priority}
use Rattle.queue.proofs.Cases.{clash, by_cond}
use Rattle.calls.specs.Hypervisor.{ends, reply_first_of, ends_tailed, named, reply_r1, reply_u1, reply_bind, reply_close, reply_first, after_r2, reply_r2, reply_r3, after_first_cas, after_later_cas, reply_r4, reply_set_busy, reply_clear_busy, reply_r5, reply_r6, staged_at, staged, answered, next_of, moved, accept_init, accept_expand, accept_port, begin_bind, begin_close, begin_priority, begin_link, init_control_of, init_control, expand_array_of, expand_array, bind_start, close_start, set_priority, raise_start, unmask_start}

-- a reply ends the call with its count, or counts one access more, which is not the first
record Counts (c : Call) (mv : Move) : Type 0 where
  ended : is_free mv.call.owner ≡ true → (mv.count ≡ c.count) × (mv.call.count ≡ 0)
  more : is_free mv.call.owner ≡ false → mv.call.count ≡ one_more c.count
  later : is_free mv.call.owner ≡ false → is_first mv.call.stage ≡ false

module _ (c : Call) (busy : is_free c.owner ≡ false) where
  ends_counts : (e : ℕ) (a : Answer) → Counts c (ends e a c.count)
  unfolding is_free
  ends_counts e a = record { ended = λ d. (refl, refl); more = λ d. clash refl d; later = λ d. clash refl d }

  tailed_counts : (e : ℕ) (a : Answer) → Counts c (ends_tailed e c a)
  unfolding is_free
  tailed_counts e a = record { ended = λ d. (refl, refl); more = λ d. clash refl d; later = λ d. clash refl d }

  goes_counts : (mv : Move) → mv.call.owner ≡ c.owner → mv.call.count ≡ one_more c.count → is_first mv.call.stage ≡ false → Counts c mv
  goes_counts mv o e f = record { ended = λ d. clash d (rw o busy); more = λ d. e; later = λ d. f }

  -- the call goes on either way
  either_counts : (b : Bool) (x y : Move) → x.call.owner ≡ c.owner → x.call.count ≡ one_more c.count → is_first x.call.stage ≡ false
      → y.call.owner ≡ c.owner → y.call.count ≡ one_more c.count → is_first y.call.stage ≡ false → Counts c (cond b x y)
  either_counts b x y o e f o' e' f' = by_cond (Counts c) b x y (λ d. goes_counts x o e f) (λ d. goes_counts y o' e' f')

  cas_counts : (e seen : ℕ) → Counts c (reply_r4 c e seen)
  unfolding reply_r4 after_first_cas after_later_cas
  cas_counts e seen = by_cond (Counts c) (cas_taken seen c.word) _ _ (λ d. tailed_counts e Done)
      (λ d. by_cond (Counts c) (leb c.tries 1) _ _ (λ f. either_counts (not (has Linked seen)) _ _ refl refl refl refl refl refl)
      (λ f. by_cond (Counts c) (not (has Linked seen)) _ _ (λ l. goes_counts _ refl refl refl) (λ l. either_counts (leb 5 c.tries) _ _ refl refl refl refl refl refl)))

  first_counts : (o : Owner) → c.owner ≡ o → (e seen : ℕ) → Counts c (reply_first_of o c e seen)
  unfolding reply_r1 reply_u1 reply_bind reply_close is_free
  first_counts owner.None o e seen = clash (rw o refl) busy
  first_counts owner.Bind o e seen = by_cond (Counts c) (has Linked seen) _ _ (λ d. ends_counts e _) (λ d. ends_counts _ Done)
  first_counts owner.Close o e seen = ends_counts _ Done
  first_counts owner.Raise o e seen = by_cond (Counts c) (has Masked seen) _ _ (λ d. ends_counts e Done) (λ d. by_cond (Counts c) (has Linked seen) _ _ (λ f. ends_counts e Done) (λ f. goes_counts _ refl refl refl))
  first_counts owner.Unmask o e seen = by_cond (Counts c) (not (has Pending seen)) _ _ (λ d. ends_counts e Done) (λ d. by_cond (Counts c) (has Linked seen) _ _ (λ f. ends_counts e Done) (λ f. goes_counts _ refl refl refl))

  stage_counts : (s : Stage) (e : ℕ) (v : View) (seen : ℕ) → Counts c (staged_at s c e v seen)
  unfolding reply_first reply_r2 after_r2 reply_r3 reply_set_busy reply_clear_busy reply_r5 reply_r6
  stage_counts stage.First e v seen = first_counts c.owner refl e seen
  stage_counts stage.R2 e v seen = by_cond (Counts c) (has Linked seen) _ _ (λ d. ends_counts e Done)
      (λ d. goes_counts _ (after (λ z. z.owner ≡ c.owner) refl refl) (after (λ z. z.count ≡ one_more c.count) refl refl) (after (λ z. is_first z.stage ≡ false) refl refl))
    where
      t : ℕ
      t = v.tail

      after : (P : Call → Type 0) → P (named c stage.R5 (queue_at (priority e))) → P (named c stage.R3 (queue_at (priority e))) → P (cond (eqb t 0) (named c stage.R5 (queue_at (priority e))) (cond (eqb t c.port.0) (named c stage.R5 (queue_at (priority e))) (named c stage.R3 (queue_at (priority e)))))
      after P a b = by_cond P (eqb t 0) _ _ (λ d. a) (λ d. by_cond P (eqb t c.port.0) _ _ (λ f. a) (λ f. b))
  stage_counts stage.R3 e v seen = either_counts (not (has Linked seen)) _ _ refl refl refl refl refl refl
  stage_counts stage.R4 e v seen = cas_counts e seen
  stage_counts stage.SetBusy e v seen = either_counts (not (has Linked seen)) _ _ refl refl refl refl refl refl
  stage_counts stage.ClearBusy e v seen = by_cond (Counts c) (has Linked c.word) _ _ (λ d. tailed_counts e _) (λ d. goes_counts _ refl refl refl)
  stage_counts stage.R5 e v seen = goes_counts _ refl refl refl
  stage_counts stage.R6 e v seen = by_cond (Counts c) (is_ready c.queue.0 seen) _ _ (λ d. ends_counts e Done) (λ d. ends_counts e _)

-- ---- worlds
-- the call under way has made all the accesses that it has named but the last
record State (made : ℕ) (c : Call) : Type 0 where
  before : made ≡ c.count - 1
  idle : is_free c.owner ≡ true → c.count ≡ 0
  busy : is_free c.owner ≡ false → 0 < c.count
  first : is_free c.owner ≡ false → is_first c.stage ≡ eqb made 0

-- what a step makes of it, whatever comes after
record CountsStep (made : ℕ) (a : Advanced) : Type 0 where
  after : ℕ
  state : State after (world_after a).domain.call
  counted : (es : List Event) → Counted after es → Counted made ((step_of a).events ++ es)

-- ---- the guest's steps count nothing
guest_quiet : (made : ℕ) (x : Next) (es : List Event) → Counted made es → Counted made (list_of (guest_answer x) ++ es)
guest_quiet made (next.Access a) es c = c
guest_quiet made (next.Answer a count) es c = c

module _ (n : ℕ) {made : ℕ} (w : World) (s : State made w.domain.call) where
  -- one with no access
  guest_counts : (o : GuestOutcome) → CountsStep made (guest_step w (guest_replied o Nothing w.memory))
  guest_counts o = record { after = made; state = s; counted = guest_quiet made o.next }

  masking_counts : (x : Result Made Refused) → CountsStep made (guest_step w (perform_masking w.guest w.memory x))
  masking_counts (Err r) = record { after = made; state = s; counted = λ es c. c }
  masking_counts (Ok y) = record { after = made; state = s; counted = λ es c. c }

  perform_guest_counts : (x : Next) → CountsStep made (guest_step w (perform_guest_next n w.guest w.memory x))
  unfolding guest_access
  perform_guest_counts (next.Access a) =
      let seen : ℕ = (performed w.memory a).seen in
      let reply : Next = (guest_reply n w.guest seen).next in
      record {
        after = made;
        state = s;
        counted = λ es c. by_cond (λ x. Counted made ((list_of x ++ list_of (guest_answer reply)) ++ es)) (is_clearing w.guest.clear.stage) (ClearAccess w.guest.clear a seen) (GuestAccess w.guest.call a seen)
            (λ e. guest_quiet made reply es c) (λ e. guest_quiet made reply es c);
      }
  perform_guest_counts (next.Answer a count) = guest_counts (guest_reply n w.guest 0)

  -- ---- the hypervisor's starts: an answer at once counts 0
  refused_counts : (a : Answer) (given : Bool) (pages : ℕ) (ledger words : List ℕ)
      → CountsStep made (start_step w (Exec.started (answered (record { given = given; pages = pages; tails = w.domain.tails; call = w.domain.call }) a) ledger words))
  refused_counts a given pages ledger words = record { after = made; state = s; counted = λ es c. c }

  init_counts : (x : Result Unit Answer) → CountsStep made (start_step w (Exec.started (init_control_of n w.domain x) w.ledger w.memory.words))
  init_counts (Err a) = refused_counts a w.domain.given w.domain.pages w.ledger w.memory.words
  init_counts (Ok tt) = refused_counts (LinkBits n) true w.domain.pages w.ledger w.memory.words

  expand_counts : (x : Result Unit Answer) (words : List ℕ) → CountsStep made (start_step w (Exec.started (expand_array_of w.domain x) w.ledger words))
  expand_counts (Err a) words = refused_counts a w.domain.given w.domain.pages w.ledger words
  expand_counts (Ok tt) words = refused_counts Done w.domain.given (one_more w.domain.pages) w.ledger words

  started_counts : (starts : Owner) (p : Port) → is_free starts ≡ false → (b : Result Begun Answer) → BeginFacts n w.domain.pages w.ledger w.domain.call.owner starts p b
      → CountsStep made (start_step w (turned (hypervisor.started n w.domain w.ledger p b) w.memory.words))
  unfolding hypervisor.started next_of
  started_counts starts p e (Err a) f = refused_counts a w.domain.given w.domain.pages w.ledger w.memory.words
  started_counts starts p e (Ok (begin.UnderWay c)) f = rw f.call (rw e (record {
    after = 0;
    state = record { before = refl; idle = λ d. clash d e; busy = λ d. lit≤ tt; first = λ d. refl };
    counted = λ es d. subst (λ z. Counted z es) (let a = s.before in let b = s.idle f.free in omega arith) d;
  }))
  started_counts starts p e (Ok (begin.Settled x)) f = refused_counts Done w.domain.given w.domain.pages (set w.ledger p.0 x) w.memory.words

  start_counts : (z : Start) → CountsStep made (start_step w (start_of n w.domain w.ledger w.memory.words z))
  unfolding start_of init_control expand_of expand_array bind_start close_start set_priority raise_start unmask_start begin_bind begin_close begin_priority begin_link is_free
  start_counts (InitControl vcpu frame frames offset) = init_counts (accept_init w.domain.call.owner w.domain.given vcpu frame frames offset)
  start_counts (ExpandArray frame frames) = expand_counts (accept_expand n w.domain.call.owner w.domain.given w.domain.pages frame frames) _
  start_counts (Bind p) = started_counts owner.Bind p refl _ (bind_facts n w.domain.pages w.ledger w.domain.call.owner p (accept_port n w.domain.call.owner w.domain.given p (entry_at w.ledger p.0)) (port_facts n w.domain.pages w.ledger w.domain.call.owner owner.Bind p w.domain.given))
  start_counts (Close p) = started_counts owner.Close p refl _ (close_facts n w.domain.pages w.ledger w.domain.call.owner p (accept_port n w.domain.call.owner w.domain.given p (entry_at w.ledger p.0)) (port_facts n w.domain.pages w.ledger w.domain.call.owner owner.Close p w.domain.given))
  start_counts (SetPriority p r) = started_counts owner.Bind p refl _ (priority_facts n w.domain.pages w.ledger w.domain.call.owner p r owner.Bind (accept_port n w.domain.call.owner w.domain.given p (entry_at w.ledger p.0)) (port_facts n w.domain.pages w.ledger w.domain.call.owner owner.Bind p w.domain.given))
  start_counts (Raise p) = started_counts owner.Raise p refl _ (link_facts n w.domain.pages w.ledger w.domain.call.owner p owner.Raise (accept_port n w.domain.call.owner w.domain.given p (entry_at w.ledger p.0)) (port_facts n w.domain.pages w.ledger w.domain.call.owner owner.Raise p w.domain.given))
  start_counts (Unmask p) = started_counts owner.Unmask p refl _ (link_facts n w.domain.pages w.ledger w.domain.call.owner p owner.Unmask (accept_port n w.domain.call.owner w.domain.given p (entry_at w.ledger p.0)) (port_facts n w.domain.pages w.ledger w.domain.call.owner owner.Unmask p w.domain.given))

  -- ---- an access of the call under way, which is among the first ten
  carried_counts : (a : Access) (seen : ℕ) (m : Memory) (mv : Move) → is_free w.domain.call.owner ≡ false → w.domain.call.count ≤ 7 + most_tries → Counts w.domain.call mv → CountsStep made (carried n w a seen m mv)
  unfolding moved next_of one_more
  carried_counts a seen m mv b few k = go (is_free mv.call.owner) refl
    where
      now : suc made ≡ w.domain.call.count
      now = let x = s.before in let y = s.busy b in omega arith

      more : OneMore (is_first w.domain.call.stage) made
      more = record { start = s.first b; bound = let x = now in omega arith }

      exact : is_free mv.call.owner ≡ false → mv.call.count ≡ w.domain.call.count + 1
      exact e = k.more e ∙ rw (lt-ltb w.domain.call.count 0xFFFFFFFF (omega arith))

      next_made : is_free mv.call.owner ≡ false → suc made ≡ mv.call.count - 1
      next_made e = let x = exact e in let y = now in omega arith

      next_busy : is_free mv.call.owner ≡ false → 0 < mv.call.count
      next_busy e = let x = exact e in omega arith

      go : (f : Bool) → is_free mv.call.owner ≡ f → CountsStep made (carried n w a seen m mv)
      go true e = rw (e, (k.ended e).0 ∙ sym now) (record {
        after = 0;
        state = record { before = rw (k.ended e).1 refl; idle = λ d. (k.ended e).1; busy = λ d. clash e d; first = λ d. clash e d };
        counted = λ es c. (more, (refl, c));
      })
      go false e = rw e (record { after = suc made; state = record { before = next_made e; idle = λ d. clash d e; busy = λ d. next_busy e; first = λ d. k.later d ∙ sym (ne_eqb (suc made) 0 (λ z. omega arith)) }; counted = λ es c. (more, c) })

-- ---- steps
-- where the hypervisor's call makes an access, it is among the first ten
access_few : (n : ℕ) (w : World) (h : List Event) → is_free w.domain.call.owner ≡ false → w.domain.call.port.0 < length w.ledger → Kept n (perform_side n w side.Hypervisor) h → w.domain.call.count ≤ 7 + most_tries
access_few n w h b e k = (subst (λ a. Kept n a h) (perform_carried n w b e) k).bounds.0.accesses

module _ {n : ℕ} (wide : Width n) {made : ℕ} (w : World) (h : List Event) (k : Good n w h) (s : State made w.domain.call) where
  perform_counts : (b : Bool) → is_free w.domain.call.owner ≡ b → CountsStep made (perform_side n w side.Hypervisor)
  unfolding staged advance_of
  perform_counts true e = rw (perform_free n w e) (refused_counts n w s NoCall w.domain.given w.domain.pages w.ledger w.memory.words)
  perform_counts false e = rw (perform_carried n w e (k.fit.entry e))
      (carried_counts n w s _ _ _ _ e (access_few n w h e (k.fit.entry e) (step_kept wide w h k (step.Perform side.Hypervisor) tt)) (stage_counts w.domain.call e w.domain.call.stage _ _ _))

  step_counts : (z : Step) → Allowed w z → CountsStep made (advance_of n w z)
  unfolding advance_of guest_start_of perform_mask perform_side perform_guest hand_back
  step_counts (step.Hypervisor z) a = start_counts n w s z
  step_counts (step.Guest Service) a = guest_counts n w s (service_start n w.guest)
  step_counts (step.Guest (Mask p)) a = masking_counts n w s (mask_of n p w.guest.words)
  step_counts (step.Guest (ClearMask p)) a = guest_counts n w s (clear_mask_start n w.guest p)
  step_counts (step.Guest (Tell words)) a = guest_counts n w s (tell_of w.guest words)
  step_counts (step.Perform side.Hypervisor) a = perform_counts (is_free w.domain.call.owner) refl
  step_counts (step.Perform side.Guest) a = perform_guest_counts n w s (guest_due_of n w.guest)
  step_counts (step.HandBack side.Hypervisor word) a = rw (reply_free n w word a) (refused_counts n w s NoCall w.domain.given w.domain.pages w.ledger w.memory.words)
  step_counts (step.HandBack side.Guest word) a = guest_counts n w s (guest_reply n w.guest word)

steps_counts : {n : ℕ} → Width n → {made : ℕ} (w : World) (h : List Event) (ss : List Step) → Good n w h → State made w.domain.call → KeepsRules n w ss → Counted made (exec_all n w ss).events
unfolding exec_all
steps_counts wide w h [] k s a = tt
steps_counts {n} wide {made} w h (z ∷ ss) k s a =
    let one = step_counts wide w h k s z a.0 in
    one.counted _ (steps_counts wide {made = (step_counts wide w h k s z a.0).after} (exec n w z).world (h ++ (exec n w z).events) ss (step_kept wide w h k z a.0).good one.state a.1)

pub counts_of_events : {n : ℕ} → Width n → CountsOfEvents n
unfolding CountsOfEvents is_free
counts_of_events {n} wide lent entries steps le rules =
    steps_counts wide (fresh_world lent entries) [] steps (fresh_good n lent entries le) (record { before = refl; idle = λ e. refl; busy = λ e. clash refl e; first = λ e. clash refl e }) rules
