-- A refusal keeps every byte: whatever changes one is answered 0, 1, 2 or 7, by 18 to 21 or 35, or by an access.
-- Assumes nothing.
use Rattle.std.specs.Prelude.{Option, Some, None, Result, Ok, Err}
use Prim.Native.Nat.{ℕ, ◌<◌, ◌≤◌}
use mathlib.Core.Path.{◌≡◌, refl, ap}
use mathlib.Core.Bool.{Bool, true, false, cond, not, false≢true}
use mathlib.Core.List.{List}
use lib.ListN.{length}
use lib.Dec.{eqb, ltb, leb}
use native.Mathlib.Omega.{arith}
use Rattle.word.specs.declared.Port.{Port}
use Rattle.word.specs.declared.Flag.TheVariants.{Pending, Masked, Linked, Busy}
use Rattle.word.specs.Word.{has, link, port_at, queue_at}
use Rattle.word.specs.declared.Queue.{Queue}
use Rattle.word.specs.Effect.{cas_taken}
use Rattle.word.specs.Ready.{is_ready, merged}
use Rattle.calls.specs.declared.types.Place.TheVariants.{Word}
use Rattle.calls.specs.declared.types.Access.{Access}
use Rattle.calls.specs.declared.types.Access.TheVariants.{Read, Store, Or, And, Swap, Cas}
use Rattle.calls.specs.declared.types.Answer.{Answer}
use Rattle.calls.specs.declared.types.Answer.TheVariants.{Done, NoCall, BadIndex, HandedOver, NothingReady, Taken}
use Rattle.calls.specs.declared.types.Owner.{Owner}
use Rattle.calls.specs.declared.types.Owner.TheVariants as owner
use Rattle.calls.specs.declared.types.Stage.{Stage}
use Rattle.calls.specs.declared.types.Stage.TheVariants.{First, R2, R3, R4, SetBusy, ClearBusy, R5, R6}
use Rattle.calls.specs.declared.types.Call.{Call}
use Rattle.calls.specs.declared.types.GuestStage.{GuestStage}
use Rattle.calls.specs.declared.types.GuestStage.TheVariants.{None, G0, G1, G2, G3, G4}
use Rattle.calls.specs.declared.types.GuestCall.{GuestCall}
use Rattle.calls.specs.declared.types.GuestOutcome.{GuestOutcome}
use Rattle.calls.specs.declared.types.ClearStage.{ClearStage}
use Rattle.calls.specs.declared.types.ClearStage.TheVariants as clear_stage
use Rattle.calls.specs.declared.types.ClearCall.{ClearCall}
use Rattle.calls.specs.declared.hypervisor.stage.View.{View}
use Rattle.calls.specs.declared.hypervisor.stage.Move.{Move}
use Rattle.calls.specs.declared.guest.GuestMove.{GuestMove}
use Rattle.calls.specs.declared.clear_mask.ClearMove.{ClearMove}
use Rattle.calls.specs.declared.hypervisor.start.Begun.{Begun}
use Rattle.calls.specs.declared.hypervisor.start.Begun.TheVariants as begin
use Rattle.calls.specs.Answers.{code_of}
use Rattle.calls.specs.Records.{is_port, is_free, guest_call_at, guest_idle, is_clearing}
use Rattle.calls.specs.Hypervisor.{accept_init, accept_expand, due, staged, staged_at, reply_first, reply_first_of, reply_r1, reply_u1, reply_bind, reply_close, reply_r2, reply_r3, after_first_cas, after_later_cas, reply_r4, reply_set_busy, reply_clear_busy, reply_r5, reply_r6}
use Rattle.calls.specs.Guest.{is_serving, guest_due, service_queue, service_start, guest_next, guest_staged, guest_staged_at, reply_g0, takes_index, reply_g2, reply_g3, reply_g4}
use Rattle.calls.specs.ClearMask.{reply_read, reply_cas, clear_staged_at, clear_staged, clear_due, clear_next, clear_mask_start}
use Rattle.calls.proofs.Cases.{choose, by_test}
use Rattle.evtchn_fifo.specs.Numbers.{narrow}
use Rattle.evtchn_fifo.specs.Encoded.{EncodedNext, Wrote, wrote, Carried, carried, encoded_answer, encoded_access, encoded_next, encoded_place, too_short}
use Rattle.evtchn_fifo.specs.Ledger.{entry_in}
use Rattle.evtchn_fifo.specs.DomainRecord.{domain_size, call_at, owner_at, given_at, pages_at, tail_at, view_at, put_call, put_move}
use Rattle.evtchn_fifo.specs.GuestRecord.{guest_size, service_at, clear_call_at, without_heads, ready_at, words_at, head_at}
use Rattle.evtchn_fifo.specs.Hypervisor.{Starts, starts_of, on_port, start_bytes, init_bytes, init_bytes_of, expand_bytes, expand_bytes_of, next_at, reply_bytes, reply_found_bytes, move_at, move_bytes}
use Rattle.evtchn_fifo.specs.Guest.{service_next_at, began_of, service_bytes, guest_move_at, guest_move_bytes}
use Rattle.evtchn_fifo.specs.ClearMask.{clear_began_of, clear_mask_bytes, clear_move_bytes, guest_reply_bytes}
use Rattle.evtchn_fifo.specs.Claims.{Refusals}

-- an access has a code of 256 or more
high : (a : Access) → 0x100 ≤ (encoded_access a).code
unfolding encoded_access encoded_place
high (Read p) = omega arith
high (Store p v) = omega arith
high (Or p v) = omega arith
high (And p v) = omega arith
high (Swap p v) = omega arith
high (Cas p v w) = omega arith

picked : (b : Bool) (x y : EncodedNext) → 0x100 ≤ y.code → (cond b x y).code < 0x100 → cond b x y ≡ x
picked true x y h l = refl
picked false x y h l = absurd (omega arith)

-- so that what comes next is an access, or the answer
next_code : (n : ℕ) (r : List ℕ) (c : Call) (a : Answer) (k : ℕ) → (next_at n r c a k).code < 0x100 → (next_at n r c a k).code ≡ (code_of a).number
unfolding next_at encoded_answer
next_code n r c a k h =
    let x = due n c (tail_at r c.queue.0) in
    ap (λ (y : EncodedNext). y.code) (picked (is_free c.owner) (encoded_answer a k) (encoded_access x) (high x) h)

-- ---- the hypervisor's calls

abbrev Kept : ℕ → List ℕ → List ℕ → Carried → Type 0
Kept k r t c = k ≤ c.next.code → c.next.code < 0x100 → c ≡ carried c.next r t

kept_if : (k : ℕ) (r t : List ℕ) (b : Bool) (x y : Carried) → Kept k r t x → Kept k r t y → Kept k r t (cond b x y)
kept_if k r t true x y a b = a
kept_if k r t false x y a b = b

abbrev KeptAlone : List ℕ → Wrote → Type 0
KeptAlone r c = 1 ≤ c.next.code → c.next.code < 0x100 → c ≡ wrote c.next r

alone_if : (r : List ℕ) (b : Bool) (x y : Wrote) → KeptAlone r x → KeptAlone r y → KeptAlone r (cond b x y)
alone_if r true x y a b = a
alone_if r false x y a b = b

start_keeps : (n : ℕ) (r t : List ℕ) (p : Port) (b : Result Begun Answer) → Kept 1 r t (start_bytes n r t p b)
unfolding start_bytes encoded_answer code_of
start_keeps n r t p (Err a) l h = refl
start_keeps n r t p (Ok (begin.UnderWay c)) l h = absurd (omega (arith, next_code n (put_call r c) c Done 0 h))
start_keeps n r t p (Ok (begin.Settled e)) l h = absurd (omega arith)

port_keeps : (n : ℕ) (starts : Starts) (p : Port) (r t : List ℕ) → Kept 1 r t (on_port n starts r t p)
unfolding on_port
port_keeps n starts p r t =
    let b = starts (owner_at r) (given_at r) (pages_at r) p (entry_in t p.0) in
    kept_if 1 r t (ltb (length r) domain_size) (carried too_short r t) (start_bytes n r t p b) (λ l h. refl) (start_keeps n r t p b)

init_keeps : (n : ℕ) (r : List ℕ) (a : Result Unit Answer) → KeptAlone r (init_bytes_of n r a)
unfolding encoded_answer code_of
init_keeps n r (Err a) l h = refl
init_keeps n r (Ok tt) l h = absurd (omega arith)

expand_keeps : (r : List ℕ) (a : Result Unit Answer) → KeptAlone r (expand_bytes_of r a)
unfolding encoded_answer code_of
expand_keeps r (Err a) l h = refl
expand_keeps r (Ok tt) l h = absurd (omega arith)

-- ---- the reply: what a stage answers is at most 7

Low : Move → Type 0
Low m = (code_of m.answer).number ≤ 7

low_if : (b : Bool) (x y : Move) → Low x → Low y → Low (cond b x y)
low_if true x y a b = a
low_if false x y a b = b

low_first : (o : Owner) (c : Call) (e seen : ℕ) → is_free o ≡ false → Low (reply_first_of o c e seen)
unfolding Low is_free reply_bind reply_close reply_r1 reply_u1 code_of
low_first owner.None c e seen f = let z : ◌≡◌ {A = ℕ} 0 1 = cc in omega arith
low_first owner.Bind c e seen f = low_if (has Linked seen) _ _ (omega arith) (omega arith)
low_first owner.Close c e seen f = omega arith
low_first owner.Raise c e seen f = low_if (has Masked seen) _ _ (omega arith) (low_if (has Linked seen) _ _ (omega arith) (omega arith))
low_first owner.Unmask c e seen f = low_if (not (has Pending seen)) _ _ (omega arith) (low_if (has Linked seen) _ _ (omega arith) (omega arith))

low_r4 : (c : Call) (e seen : ℕ) → Low (reply_r4 c e seen)
unfolding Low reply_r4 after_first_cas after_later_cas code_of
low_r4 c e seen =
    low_if (cas_taken seen c.word) _ _ (omega arith)
    (low_if (leb c.tries 1) _ _ (low_if (not (has Linked seen)) _ _ (omega arith) (omega arith))
    (low_if (not (has Linked seen)) _ _ (omega arith) (low_if (leb 5 c.tries) _ _ (omega arith) (omega arith))))

low_at : (s : Stage) (c : Call) (e : ℕ) (v : View) (seen : ℕ) → is_free c.owner ≡ false → Low (staged_at s c e v seen)
unfolding Low reply_first reply_r2 reply_r3 reply_set_busy reply_clear_busy reply_r5 reply_r6 code_of
low_at First c e v seen f = low_first c.owner c e seen f
low_at R2 c e v seen f = low_if (has Linked seen) _ _ (omega arith) (omega arith)
low_at R3 c e v seen f = low_if (not (has Linked seen)) _ _ (omega arith) (omega arith)
low_at R4 c e v seen f = low_r4 c e seen
low_at SetBusy c e v seen f = low_if (not (has Linked seen)) _ _ (omega arith) (omega arith)
low_at ClearBusy c e v seen f = low_if (has Linked c.word) _ _ (omega arith) (omega arith)
low_at R5 c e v seen f = omega arith
low_at R6 c e v seen f = low_if (is_ready c.queue.0 seen) _ _ (omega arith) (omega arith)

low_staged : (c : Call) (e : ℕ) (v : View) (seen : ℕ) → is_free c.owner ≡ false → (code_of (staged c e v seen).answer).number ≤ 7
unfolding Low staged
low_staged c e v seen f = low_at c.stage c e v seen f

found_keeps : (n : ℕ) (r t : List ℕ) (seen : ℕ) (f : Option ℕ) → is_free (call_at r).owner ≡ false → Kept 8 r t (reply_found_bytes n r t seen f)
unfolding move_bytes
found_keeps n r t seen None e l h = refl
found_keeps n r t seen (Some x) e l h =
    let m = move_at r x seen in
    absurd (omega (arith, next_code n (put_move r m) m.call m.answer m.count h, low_staged (call_at r) x (view_at r x) seen e))

reply_by : (n : ℕ) (r t : List ℕ) (seen : ℕ) (b : Bool) → is_free (call_at r).owner ≡ b → Kept 8 r t (cond b (carried (encoded_answer NoCall 0) r t) (reply_found_bytes n r t seen (entry_in t (call_at r).port.0)))
reply_by n r t seen true e l h = refl
reply_by n r t seen false e l h = found_keeps n r t seen (entry_in t (call_at r).port.0) e l h

reply_keeps : (n : ℕ) (r t : List ℕ) (seen : ℕ) → Kept 8 r t (reply_bytes n r t seen)
unfolding reply_bytes
reply_keeps n r t seen = kept_if 8 r t (ltb (length r) domain_size) (carried too_short r t) _ (λ l h. refl) (reply_by n r t seen (is_free (call_at r).owner) refl)

-- ---- the guest's calls

service_by : (n : ℕ) (r : List ℕ) (k b : Bool) → is_clearing (clear_call_at r).stage ≡ k → is_serving (service_at r).stage ≡ b → KeptAlone r (began_of r (service_start n (without_heads 0 (service_at r) (clear_call_at r))))
unfolding service_start guest_next is_serving
service_by n r true b k e = rw k (λ l h. refl)
service_by n r false true k e = rw (k, e) (λ l h. refl)
service_by n r false false k e = rw (k, e) (λ l h. absurd (omega (arith, high (guest_due n (guest_call_at G0 (port_at 0) (queue_at 0) 1)))))

service_keeps : (n : ℕ) (r : List ℕ) → KeptAlone r (service_bytes n r)
unfolding service_bytes
service_keeps n r = alone_if r (ltb (length r) guest_size) (wrote too_short r) _ (λ l h. refl) (service_by n r (is_clearing (clear_call_at r).stage) (is_serving (service_at r).stage) refl refl)

began_if : (r : List ℕ) (b : Bool) (x y : GuestOutcome) → KeptAlone r (clear_began_of r x) → KeptAlone r (clear_began_of r y) → KeptAlone r (clear_began_of r (cond b x y))
began_if r true x y a b = a
began_if r false x y a b = b

clear_keeps : (n : ℕ) (p : ℕ) (r : List ℕ) → KeptAlone r (clear_mask_bytes n r p)
unfolding clear_mask_bytes clear_mask_start
clear_keeps n p r =
    alone_if r (ltb (length r) guest_size) (wrote too_short r) _ (λ l h. refl)
    (began_if r (is_clearing (clear_call_at r).stage) _ _ (λ l h. refl)
    (began_if r (not (is_port n (narrow p))) _ _ (λ l h. refl)
    (began_if r (leb (words_at r) (narrow p)) _ _ (λ l h. refl) (λ l h. absurd (omega (arith, high (Read (Word (port_at (narrow p))))))))))

-- what a service's stage comes to is an access, or a number of 18 and more
Far : ℕ → GuestMove → Type 0
Far n m = 18 ≤ (service_next_at n m.call m.answer m.count).code

far_if : (n : ℕ) (b : Bool) (x y : GuestMove) → Far n x → Far n y → Far n (cond b x y)
far_if n true x y a b = a
far_if n false x y a b = b

-- it goes on
far_on : (n ready : ℕ) (c : GuestCall) (q : Queue) (h k : ℕ) → not (is_serving c.stage) ≡ false → Far n record { queue = q; head = h; ready = ready; call = c; answer = Done; count = k }
unfolding Far service_next_at
far_on n ready c q h k e = rw e (omega (arith, high (guest_due n c)))

-- it ends
far_end : (n ready : ℕ) (q : Queue) (h : ℕ) (a : Answer) (k : ℕ) → 18 ≤ (code_of a).number → Far n record { queue = q; head = h; ready = ready; call = guest_idle; answer = a; count = k }
unfolding Far service_next_at is_serving encoded_answer
far_end n ready q h a k l = l

far_index : (n : ℕ) (c : GuestCall) (ready words : ℕ) (q : Queue) (index : ℕ) → Far n (takes_index c ready words q index)
unfolding takes_index is_serving code_of
far_index n c ready words q index =
    far_if n (eqb index 0) _ _ (far_end n _ _ _ BadIndex _ (omega arith)) (far_if n (leb words index) _ _ (far_end n _ _ _ BadIndex _ (omega arith)) (far_on n _ _ _ _ _ refl))

far_at : (n : ℕ) (s : GuestStage) (c : GuestCall) (ready words head seen : ℕ) → not (is_serving s) ≡ false → Far n (guest_staged_at n s c ready words head seen)
unfolding is_serving reply_g0 reply_g2 reply_g3 reply_g4 code_of
far_at n None c ready words head seen f = let z : ◌≡◌ {A = ℕ} 0 1 = cc in absurd (omega arith)
far_at n G0 c ready words head seen f =
    far_if n (eqb (merged ready seen) 0) _ _ (far_end n _ _ _ NothingReady _ (omega arith)) (far_if n (eqb head 0) _ _ (far_on n _ _ _ _ _ refl) (far_index n c (merged ready seen) words _ head))
far_at n G1 c ready words head seen f = far_index n c ready words c.queue seen
far_at n G2 c ready words head seen f = far_if n (eqb (link n seen) 0) _ _ (far_on n _ _ _ _ _ refl) (far_on n _ _ _ _ _ refl)
far_at n G3 c ready words head seen f =
    far_if n (not (has Pending seen)) _ _ (far_end n _ _ _ (Taken c.port) _ (omega arith)) (far_if n (has Masked seen) _ _ (far_end n _ _ _ (Taken c.port) _ (omega arith)) (far_on n _ _ _ _ _ refl))
far_at n G4 c ready words head seen f = far_if n (has Pending seen) _ _ (far_end n _ _ _ (HandedOver c.port) _ (omega arith)) (far_end n _ _ _ (Taken c.port) _ (omega arith))

far_staged : (n : ℕ) (c : GuestCall) (ready words head seen : ℕ) → not (is_serving c.stage) ≡ false → Far n (guest_staged n c ready words head seen)
unfolding guest_staged
far_staged n c ready words head seen f = far_at n c.stage c ready words head seen f

far_code : (n : ℕ) (m : GuestMove) → Far n m → 18 ≤ (service_next_at n m.call m.answer m.count).code
unfolding Far
far_code n m h = h

-- so that a number below 18 is the refusal of a reply with no service under way
reply_of_lem : (n : ℕ) (r : List ℕ) (seen : ℕ) (b : Bool) → not (is_serving (service_at r).stage) ≡ b → (cond b (wrote (encoded_answer NoCall 0) r) (guest_move_bytes n r (guest_move_at n r seen))).next.code < 18 → cond b (wrote (encoded_answer NoCall 0) r) (guest_move_bytes n r (guest_move_at n r seen)) ≡ wrote (cond b (wrote (encoded_answer NoCall 0) r) (guest_move_bytes n r (guest_move_at n r seen))).next r
unfolding guest_move_bytes
reply_of_lem n r seen true e h = refl
reply_of_lem n r seen false e h =
    let m = guest_move_at n r seen in
    absurd (omega (arith, far_code n m (far_staged n (service_at r) (ready_at r) (words_at r) (head_at r (service_queue (ready_at r) seen).0) seen e)))

-- a clear_mask's comes to an access, 0 or 35
clear_far : ℕ → Type 0
clear_far k = (1 ≤ k) → k < 18 → ⊥

clear_next_far : (c : ClearCall) (a : Answer) (k : ℕ) → clear_far (code_of a).number → clear_far (encoded_next (clear_next c a k)).code
unfolding clear_far clear_next encoded_next encoded_answer
clear_next_far c a k f = by_test (λ x. (1 ≤ (encoded_next x).code) → (encoded_next x).code < 18 → ⊥) (is_clearing c.stage) (λ e l h. omega (arith, high (clear_due c))) (λ e. f)

ClearFar : ClearMove → Type 0
ClearFar m = clear_far (code_of m.answer).number

clear_far_at : (s : ClearStage) (c : ClearCall) (seen : ℕ) → is_clearing s ≡ true → ClearFar (clear_staged_at s c seen)
unfolding ClearFar clear_far is_clearing reply_read reply_cas code_of
clear_far_at clear_stage.None c seen e = absurd (false≢true e)
clear_far_at clear_stage.Read c seen e =
    choose ClearFar (not (has Masked seen)) (λ l h. omega arith)
    (choose ClearFar (has Pending seen) (λ l h. omega arith) (choose ClearFar (has Busy seen) (λ l h. omega arith) (λ l h. omega arith)))
clear_far_at clear_stage.Cas c seen e = choose ClearFar (cas_taken seen c.word) (λ l h. omega arith) (λ l h. omega arith)

clear_staged_far : (c : ClearCall) (seen : ℕ) → is_clearing c.stage ≡ true → clear_far (code_of (clear_staged c seen).answer).number
unfolding ClearFar clear_staged
clear_staged_far c seen e = clear_far_at c.stage c seen e

clear_reply_far : (r : List ℕ) (seen : ℕ) → is_clearing (clear_call_at r).stage ≡ true → 1 ≤ (clear_move_bytes r (clear_staged (clear_call_at r) seen)).next.code → (clear_move_bytes r (clear_staged (clear_call_at r) seen)).next.code < 18 → ⊥
unfolding clear_move_bytes clear_far
clear_reply_far r seen e = let m = clear_staged (clear_call_at r) seen in clear_next_far m.call m.answer m.count (clear_staged_far (clear_call_at r) seen e)

guest_reply_by : (n : ℕ) (r : List ℕ) (seen : ℕ) (b k : Bool) → ltb (length r) guest_size ≡ b → is_clearing (clear_call_at r).stage ≡ k → 1 ≤ (guest_reply_bytes n r seen).next.code → (guest_reply_bytes n r seen).next.code < 18 → guest_reply_bytes n r seen ≡ wrote (guest_reply_bytes n r seen).next r
unfolding guest_reply_bytes
guest_reply_by n r seen true k e f l h = rw e
guest_reply_by n r seen false true e f l h = absurd (clear_reply_far r seen f (rw (e, f) at l) (rw (e, f) at h))
guest_reply_by n r seen false false e f l h = rw (e, f) (reply_of_lem n r seen (not (is_serving (service_at r).stage)) refl (rw (e, f) at h))

pub refusals : (n : ℕ) → Refusals n
unfolding init_bytes expand_bytes
refusals n = record {
  port_call_lem = λ call p r t l h. port_keeps n (starts_of n call) p r t l h;
  init_control_lem = λ vcpu frame frames offset r. alone_if r (ltb (length r) domain_size) (wrote too_short r) _ (λ l h. refl) (init_keeps n r (accept_init (owner_at r) (given_at r) (narrow vcpu) frame frames (narrow offset)));
  expand_array_lem = λ frame frames r. alone_if r (ltb (length r) domain_size) (wrote too_short r) _ (λ l h. refl) (expand_keeps r (accept_expand n (owner_at r) (given_at r) (pages_at r) frame frames));
  reply = λ seen r t. reply_keeps n r t seen;
  service = service_keeps n;
  clear_mask_lem = λ p r. clear_keeps n p r;
  guest_reply_lem = λ seen r. guest_reply_by n r seen (ltb (length r) guest_size) (is_clearing (clear_call_at r).stage) refl refl;
}
