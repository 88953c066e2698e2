-- A call or an access made on the lent bytes is the machine's step on the world that they are: what code did of it comes to `made` and
-- `begins`.
-- Assumes nothing.
use Prim.Native.Nat.{ℕ, ◌^◌, ◌≤◌, ◌<◌}
use mathlib.Core.Path.{◌≡◌, refl, ap, ◌∙◌, sym}
use mathlib.Core.Bool.{Bool, true, false, cond, not, ◌||◌}
use mathlib.Core.List.{List, ◌∷◌, ◌++◌}
use mathlib.Core.Logic.{◌≢◌}
use native.Mathlib.Omega.{arith}
use lib.ListN.{length}
use lib.Dec.{ltb}
use borrow.Author.Tests.{ltb-false}
use Rattle.word.specs.declared.Port.{Port}
use Rattle.word.specs.Word.{link_bits, link_bits-width}
use Rattle.calls.specs.declared.types.Access.{Access}
use Rattle.calls.specs.declared.types.Answer.{Answer}
use Rattle.calls.specs.declared.types.Next.{Next}
use Rattle.calls.specs.declared.types.Next.TheVariants as next
use Rattle.calls.specs.declared.types.Domain.{Domain}
use Rattle.calls.specs.declared.types.Guest.{Guest}
use Rattle.calls.specs.Records.{is_free, is_clearing}
use Rattle.calls.specs.Hypervisor.{next_of, due_of}
use Rattle.calls.specs.Guest.{is_serving, guest_next}
use Rattle.calls.specs.ClearMask.{guest_due_of}
use Rattle.calls.specs.Claims.{GuestAct, Serves, ClearsMask, GuestReplies}
use Rattle.machine.specs.declared.types.Side.TheVariants as side
use Rattle.machine.specs.declared.types.Start.{Start}
use Rattle.machine.specs.declared.types.Step.{Step}
use Rattle.machine.specs.declared.types.Step.TheVariants as step
use Rattle.machine.specs.declared.types.Event.{Event}
use Rattle.machine.specs.declared.types.Event.TheVariants.{Nothing, GuestAccess, ClearAccess}
use Rattle.calls.proofs.Cases.{choose, by_test}
use Rattle.machine.specs.Memory.{memory, Performed, did, performed}
use Rattle.machine.specs.Exec.{World, Stepped, exec, list_of, guest_access, hypervisor_answer}
use Rattle.access_log.specs.declared.line.LoggedCall.{LoggedCall}
use Rattle.access_log.specs.declared.line.LoggedCall.TheVariants as call
use Rattle.access_log.specs.Line.{LegalCall, bytes_of}
use Rattle.access_log.specs.Event.{access_line, line_of}
use Rattle.evtchn_fifo.specs.Numbers.{narrow}
use Rattle.evtchn_fifo.specs.Encoded.{EncodedNext, Wrote, wrote, Carried, carried}
use Rattle.evtchn_fifo.specs.DomainRecord.{domain_size, domain_at}
use Rattle.evtchn_fifo.specs.GuestRecord.{guest_size, guest_at}
use Rattle.evtchn_fifo.specs.Hypervisor.{reply_bytes, due_bytes}
use Rattle.evtchn_fifo.specs.Guest.{service_bytes}
use Rattle.evtchn_fifo.specs.ClearMask.{clear_mask_bytes, guest_reply_bytes, guest_due_bytes}
use Rattle.exported.specs.Decoded.{decoded_next, decoded_access}
use Rattle.exported.specs.Run as run
use Rattle.exported.specs.Run.{Bytes, world_of, SteppedBytes, stepped, guest_did, LongEnough, step_bytes, words_after, narrow_step}
use Rattle.exported.specs.Demands.{Starts, Replies, wrote_by}
use Rattle.exported.proofs.Runs.{step_is, due_is, guest_due_is}
use Rattle.std.specs.Prelude.{Option, Result, Ok, Err}
use Rattle.replay.specs.declared.player.due.Due.{Due}
use Rattle.replay.specs.declared.player.due.Stop.{Stop}
use Rattle.replay.specs.Replay.{Player, playing, next_line, step_of_call, adds, ran, due_after, begins}
use Rattle.replay.specs.Player.{met, made}
use Rattle.replay.specs.State.{world_in, due_lines, result_due, after_line}
use Rattle.replay.proofs.DueLaws.{Misses}
use Rattle.replay.proofs.ResultLaws.{request_due, guest_request_due, access_read, answer_read}

pub some_bits : link_bits ≢ 0
some_bits e = omega arith

-- ---- what is due of a record, and whether a call is under way

no_answer : {a : Access} {b : Answer} {count : ℕ} → next.Access a ≡ next.Answer b count → ⊥
no_answer e = let z : ◌≡◌ {A = ℕ} 0 1 = cc in omega arith

under_way_lem : (b : Bool) (x : Access) (y : Answer) (count : ℕ) {a : Access} → cond b (next.Answer y count) (next.Access x) ≡ next.Access a → b ≡ false
under_way_lem true x y count e = absurd (no_answer (sym e))
under_way_lem false x y count e = refl

not_under_way : (b : Bool) (x : Access) (y : Answer) (count : ℕ) {a : Answer} {k : ℕ} → cond b (next.Answer y count) (next.Access x) ≡ next.Answer a k → b ≡ true
not_under_way true x y count e = refl
not_under_way false x y count e = absurd (no_answer e)

domain_busy : (d : Domain) {a : Access} → due_of link_bits d ≡ next.Access a → not (is_free d.call.owner) ≡ true
unfolding next_of
domain_busy d e = ap not (under_way_lem (is_free d.call.owner) _ _ _ e)

domain_idle : (d : Domain) {a : Answer} {k : ℕ} → due_of link_bits d ≡ next.Answer a k → not (is_free d.call.owner) ≡ false
unfolding next_of
domain_idle d e = ap not (not_under_way (is_free d.call.owner) _ _ _ e)

guest_busy_by : (clearing serving : Bool) (x y : Access) (z : Answer) (count : ℕ) {a : Access} →
    cond clearing (next.Access x) (cond (not serving) (next.Answer z count) (next.Access y)) ≡ next.Access a → clearing || serving ≡ true
guest_busy_by true serving x y z count e = refl
guest_busy_by false true x y z count e = refl
guest_busy_by false false x y z count e = absurd (no_answer (sym e))

guest_idle_by : (clearing serving : Bool) (x y : Access) (z : Answer) (count : ℕ) {a : Answer} {k : ℕ} →
    cond clearing (next.Access x) (cond (not serving) (next.Answer z count) (next.Access y)) ≡ next.Answer a k → clearing || serving ≡ false
guest_idle_by true serving x y z count e = absurd (no_answer e)
guest_idle_by false true x y z count e = absurd (no_answer e)
guest_idle_by false false x y z count e = refl

guest_busy : (g : Guest) {a : Access} → guest_due_of link_bits g ≡ next.Access a → is_clearing g.clear.stage || is_serving g.call.stage ≡ true
unfolding guest_due_of guest_next
guest_busy g e = guest_busy_by (is_clearing g.clear.stage) (is_serving g.call.stage) _ _ _ _ e

guest_idle_lem : (g : Guest) {a : Answer} {k : ℕ} → guest_due_of link_bits g ≡ next.Answer a k → is_clearing g.clear.stage || is_serving g.call.stage ≡ false
unfolding guest_due_of guest_next
guest_idle_lem g e = guest_idle_by (is_clearing g.clear.stage) (is_serving g.call.stage) _ _ _ _ e

-- her access has the same line, whichever call it is of
guest_line : (g : Guest) (a : Access) (seen : ℕ) (es : List Event) → due_after (list_of (guest_access g a seen) ++ es) ≡ bytes_of (access_line side.Guest a seen) ∷ due_after es
unfolding guest_access due_after line_of
guest_line g a seen es =
    choose (λ (e : Event). due_after (list_of e ++ es) ≡ bytes_of (access_line side.Guest a seen) ∷ due_after es) (is_clearing g.clear.stage) {x = ClearAccess g.clear a seen} {y = GuestAccess g.call a seen}
    refl refl

-- ---- numbers of a legal call are those that the functions take

pub narrow_small : (v : ℕ) → v < 2 ^ 32 → narrow v ≡ v
unfolding narrow
narrow_small v h = by_test (λ (x : ℕ). x ≡ v) (ltb v 0xFFFFFFFF) (λ e. refl) (λ e. omega (arith, ltb-false v 0xFFFFFFFF e))

narrow_call : (c : LoggedCall) → LegalCall c → narrow_step (step_of_call c) ≡ step_of_call c
unfolding step_of_call LegalCall
narrow_call (call.InitControl vcpu frame offset) h = simp (narrow_small vcpu h.0, narrow_small offset h.2)
narrow_call (call.ExpandArray frame) h = refl
narrow_call (call.Bind port) h = simp (narrow_small port.0 h)
narrow_call (call.Close port) h = simp (narrow_small port.0 h)
narrow_call (call.SetPriority port priority) h = simp (narrow_small port.0 h.0, narrow_small priority.0 h.1)
narrow_call (call.Raise port) h = simp (narrow_small port.0 h)
narrow_call (call.Unmask port) h = simp (narrow_small port.0 h)
narrow_call call.Service h = refl
narrow_call (call.Mask port) h = simp (narrow_small port.0 h)
narrow_call (call.ClearMask port) h = simp (narrow_small port.0 h)

-- ---- over the lent bytes

module _ (d t g ws b : List ℕ) (domain-long : domain_size ≤ length d) (guest-long : guest_size ≤ length g) where
  abbrev lent : Bytes
  lent = record { domain = d; ledger = t; guest = g; memory = memory ws b }

  abbrev here : World
  here = world_in d t g ws b

  long : LongEnough lent
  long = record { domain = domain-long; guest = guest-long }

  -- ---- an access

  abbrev made_of : ℕ → List ℕ → Access → Performed → Carried → Player
  made_of k text a p c =
      met (world_in c.record_bytes c.ledger_bytes g p.memory.words p.memory.block) (bytes_of (access_line side.Hypervisor a p.seen) ∷ result_due side.Hypervisor c.next) k text

  hypervisor_exec : (a : Access) → decoded_next (due_bytes link_bits d) ≡ next.Access a → exec link_bits here (step.Perform side.Hypervisor) ≡ stepped (run.perform_hypervisor link_bits lent (next.Access a))
  unfolding step_bytes
  hypervisor_exec a e =
      sym (step_is link_bits-width lent long (step.Perform side.Hypervisor)) ∙ ap (λ (x : Next). stepped (run.perform_hypervisor link_bits lent x)) e

  hypervisor_met : (a : Access) → decoded_next (due_bytes link_bits d) ≡ next.Access a → (k : ℕ) (text : List ℕ) →
      made link_bits here k side.Hypervisor text ≡ made_of k text a (performed (memory ws b) a) (reply_bytes link_bits d t (performed (memory ws b) a).seen)
  unfolding made due_after line_of
  hypervisor_met a e k text =
      simp (domain_busy (domain_at d) (sym (due_is link_bits-width lent long) ∙ e))
      (ap (λ (s : Stepped). met s.world (due_after s.events) k text) (hypervisor_exec a e)
      ∙ ap (λ (ds : List (List ℕ)). met (world_of (run.perform_hypervisor link_bits lent (next.Access a)).bytes) (bytes_of (access_line side.Hypervisor a (performed (memory ws b) a).seen) ∷ ds) k text) (sym (request_due link_bits some_bits d domain-long (Replies (performed (memory ws b) a).seen t))))

  pub hypervisor_made : (x : EncodedNext) (a : Access) (ws' b' : List ℕ) (seen : ℕ) (y : EncodedNext) (d' t' : List ℕ) (k : ℕ) (text : List ℕ) (r : Result (Option Due) Stop) (due : List ℕ) →
      x ≡ due_bytes link_bits d → ltb x.code 0x100 ≡ false → a ≡ decoded_access x → did (memory ws' b') seen ≡ performed (memory ws b) a → carried y d' t' ≡ reply_bytes link_bits d t seen →
      ((j : ℕ) (w : World) → after_line r j due w ≡ met w (bytes_of (access_line side.Hypervisor a seen) ∷ result_due side.Hypervisor y) j text) →
      after_line r k due (world_in d' t' g ws' b') ≡ made link_bits here k side.Hypervisor text
  hypervisor_made x a ws' b' seen y d' t' k text r due e h f p c m =
      m k (world_in d' t' g ws' b')
      ∙ ap (made_of k text a (did (memory ws' b') seen)) c
      ∙ ap (λ (q : Performed). made_of k text a q (reply_bytes link_bits d t q.seen)) p
      ∙ sym (hypervisor_met a (ap decoded_next (sym e) ∙ access_read x h ∙ ap next.Access (sym f)) k text)

  pub hypervisor_idle : (x : EncodedNext) (k : ℕ) (text : List ℕ) (r : Stop) (due : List ℕ) → x ≡ due_bytes link_bits d → ltb x.code 0x100 ≡ true →
      Misses r 0 text → after_line (Err r) k due here ≡ made link_bits here k side.Hypervisor text
  unfolding made met
  hypervisor_idle x k text r due e h m =
      m k due here ∙ simp (domain_idle (domain_at d) (sym (due_is link_bits-width lent long) ∙ ap decoded_next (sym e) ∙ answer_read x h))

  abbrev served_of : ℕ → List ℕ → Access → Performed → Wrote → Player
  served_of k text a p c =
      met (world_in d t c.record_bytes p.memory.words p.memory.block) (bytes_of (access_line side.Guest a p.seen) ∷ result_due side.Guest c.next) k text

  guest_exec : (a : Access) → decoded_next (guest_due_bytes link_bits g) ≡ next.Access a → exec link_bits here (step.Perform side.Guest) ≡ stepped (run.perform_guest link_bits lent (next.Access a))
  unfolding step_bytes
  guest_exec a e =
      sym (step_is link_bits-width lent long (step.Perform side.Guest)) ∙ ap (λ (x : Next). stepped (run.perform_guest link_bits lent x)) e

  guest_met : (a : Access) → decoded_next (guest_due_bytes link_bits g) ≡ next.Access a → (k : ℕ) (text : List ℕ) →
      made link_bits here k side.Guest text ≡ served_of k text a (performed (memory ws b) a) (guest_reply_bytes link_bits g (performed (memory ws b) a).seen)
  unfolding made
  guest_met a e k text =
      simp (guest_busy (guest_at g) (sym (guest_due_is link_bits-width lent long) ∙ e))
      (ap (λ (s : Stepped). met s.world (due_after s.events) k text) (guest_exec a e)
      ∙ ap (λ (ds : List (List ℕ)). met (world_of (run.perform_guest link_bits lent (next.Access a)).bytes) ds k text)
      (guest_line (guest_at g) a (performed (memory ws b) a).seen _
      ∙ ap (λ (ds : List (List ℕ)). bytes_of (access_line side.Guest a (performed (memory ws b) a).seen) ∷ ds) (sym (guest_request_due link_bits g guest-long (GuestReplies (performed (memory ws b) a).seen)))))

  pub guest_made : (x : EncodedNext) (a : Access) (ws' b' : List ℕ) (seen : ℕ) (y : EncodedNext) (g' : List ℕ) (k : ℕ) (text : List ℕ) (r : Result (Option Due) Stop) (due : List ℕ) →
      x ≡ guest_due_bytes link_bits g → ltb x.code 0x100 ≡ false → a ≡ decoded_access x → did (memory ws' b') seen ≡ performed (memory ws b) a → wrote y g' ≡ guest_reply_bytes link_bits g seen →
      ((j : ℕ) (w : World) → after_line r j due w ≡ met w (bytes_of (access_line side.Guest a seen) ∷ result_due side.Guest y) j text) →
      after_line r k due (world_in d t g' ws' b') ≡ made link_bits here k side.Guest text
  guest_made x a ws' b' seen y g' k text r due e h f p c m =
      m k (world_in d t g' ws' b')
      ∙ ap (served_of k text a (did (memory ws' b') seen)) c
      ∙ ap (λ (q : Performed). served_of k text a q (guest_reply_bytes link_bits g q.seen)) p
      ∙ sym (guest_met a (ap decoded_next (sym e) ∙ access_read x h ∙ ap next.Access (sym f)) k text)

  pub guest_rests : (x : EncodedNext) (k : ℕ) (text : List ℕ) (r : Stop) (due : List ℕ) → x ≡ guest_due_bytes link_bits g → ltb x.code 0x100 ≡ true →
      Misses r 0 text → after_line (Err r) k due here ≡ made link_bits here k side.Guest text
  unfolding made met
  guest_rests x k text r due e h m =
      m k due here ∙ simp (guest_idle_lem (guest_at g) (sym (guest_due_is link_bits-width lent long) ∙ ap decoded_next (sym e) ∙ answer_read x h))

  -- ---- a call

  pub call_exec : (c : LoggedCall) → LegalCall c → exec link_bits here (step_of_call c) ≡ stepped (step_bytes link_bits lent (step_of_call c))
  call_exec c h = sym (step_is link_bits-width lent long (step_of_call c) ∙ ap (exec link_bits here) (narrow_call c h))

  -- one that adds no page
  pub call_begins : (c : LoggedCall) (k : ℕ) → LegalCall c → adds link_bits (domain_at d) c ≡ false →
      begins link_bits here k c ≡ playing (world_of (step_bytes link_bits lent (step_of_call c)).bytes) (due_after (step_bytes link_bits lent (step_of_call c)).events) (next_line k)
  unfolding ran
  call_begins c k h e = simp e (ap (λ (s : Stepped). playing s.world (due_after s.events) (next_line k)) (call_exec c h))

  pub hypervisor_began : (c : LoggedCall) (s : Start) (y : EncodedNext) (d' t' : List ℕ) (k : ℕ) (r : Option Due) (due : List ℕ) →
      LegalCall c → adds link_bits (domain_at d) c ≡ false → step_of_call c ≡ step.Hypervisor s → words_after link_bits d ws s ≡ ws → carried y d' t' ≡ run.start_bytes link_bits d t s →
      due_lines r due ≡ result_due side.Hypervisor y → after_line (Ok r) k due (world_in d' t' g ws b) ≡ begins link_bits here k c
  unfolding step_bytes after_line
  hypervisor_began c s y d' t' k r due h e f w p m =
      ap (λ (ds : List (List ℕ)). playing (world_in d' t' g ws b) ds (next_line k)) m
      ∙ ap (λ (x : Carried). playing (world_in x.record_bytes x.ledger_bytes g ws b) (result_due side.Hypervisor x.next) (next_line k)) p
      ∙ ap (λ (ds : List (List ℕ)). playing (world_in (run.start_bytes link_bits d t s).record_bytes (run.start_bytes link_bits d t s).ledger_bytes g ws b) ds (next_line k)) (request_due link_bits some_bits d domain-long (Starts s t))
      ∙ ap (λ (v : List ℕ). playing (world_in (run.start_bytes link_bits d t s).record_bytes (run.start_bytes link_bits d t s).ledger_bytes g v b) (due_after (list_of (hypervisor_answer (decoded_next (run.start_bytes link_bits d t s).next)))) (next_line k)) (sym w)
      ∙ sym (call_begins c k h e ∙ ap (λ (x : Step). playing (world_of (step_bytes link_bits lent x).bytes) (due_after (step_bytes link_bits lent x).events) (next_line k)) f)

  guest_began : (c : LoggedCall) (act : GuestAct) (y : EncodedNext) (g' : List ℕ) (k : ℕ) (r : Option Due) (due : List ℕ) →
      LegalCall c → adds link_bits (domain_at d) c ≡ false → step_bytes link_bits lent (step_of_call c) ≡ guest_did lent (wrote_by link_bits g act) Nothing (memory ws b) → wrote y g' ≡ wrote_by link_bits g act →
      due_lines r due ≡ result_due side.Guest y → after_line (Ok r) k due (world_in d t g' ws b) ≡ begins link_bits here k c
  unfolding after_line
  guest_began c act y g' k r due h e f p m =
      ap (λ (ds : List (List ℕ)). playing (world_in d t g' ws b) ds (next_line k)) m
      ∙ ap (λ (x : Wrote). playing (world_in d t x.record_bytes ws b) (result_due side.Guest x.next) (next_line k)) p
      ∙ ap (λ (ds : List (List ℕ)). playing (world_in d t (wrote_by link_bits g act).record_bytes ws b) ds (next_line k)) (guest_request_due link_bits g guest-long act)
      ∙ sym (call_begins c k h e ∙ ap (λ (s : SteppedBytes). playing (world_of s.bytes) (due_after s.events) (next_line k)) f)

  pub service_began : (y : EncodedNext) (g' : List ℕ) (k : ℕ) (r : Option Due) (due : List ℕ) → wrote y g' ≡ service_bytes link_bits g →
      due_lines r due ≡ result_due side.Guest y → after_line (Ok r) k due (world_in d t g' ws b) ≡ begins link_bits here k call.Service
  unfolding step_bytes step_of_call adds LegalCall
  service_began y g' k r due p m = guest_began call.Service Serves y g' k r due tt refl refl p m

  pub clear_began : (p : Port) → LegalCall (call.ClearMask p) → (y : EncodedNext) (g' : List ℕ) (k : ℕ) (r : Option Due) (due : List ℕ) → wrote y g' ≡ clear_mask_bytes link_bits g p.0 →
      due_lines r due ≡ result_due side.Guest y → after_line (Ok r) k due (world_in d t g' ws b) ≡ begins link_bits here k (call.ClearMask p)
  unfolding step_bytes step_of_call adds
  clear_began p h y g' k r due e m = guest_began (call.ClearMask p) (ClearsMask p) y g' k r due h refl refl e m
