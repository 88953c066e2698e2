-- An expand with the page that it adds and the guest's number of words, and a mask with its access, come to `begins`.
-- Assumes nothing.
use Rattle.std.specs.Prelude.{Ok, Err}
use Prim.Native.Nat.{ℕ, ◌+◌, ◌*◌, ◌^◌, ◌≤◌, ◌<◌}
use mathlib.Core.Path.{◌≡◌, refl, ap, ◌∙◌, sym, subst}
use mathlib.Core.Bool.{Bool, true, false, cond, not, false≢true}
use mathlib.Core.List.{List, [], ◌∷◌}
use native.Mathlib.Omega.{arith}
use lib.ListN.{length}
use lib.Dec.{eqb, ltb, leb}
use borrow.Author.Tests.{ltb-true, leb-false, lt-ltb, le-ltb}
use Rattle.word.specs.declared.Port.{Port}
use Rattle.word.specs.declared.Flag.TheVariants.{Masked}
use Rattle.word.specs.Word.{link_bits, link_bits-width, mask}
use Rattle.calls.specs.declared.types.Place.TheVariants as place
use Rattle.calls.specs.declared.types.Access.{Access}
use Rattle.calls.specs.declared.types.Access.TheVariants.{Or}
use Rattle.calls.specs.declared.types.Answer.TheVariants.{Done, BadPort, OutsideArray, CallUnderWay, NotGiven, TooManyPages, BadFrame}
use Rattle.calls.specs.declared.types.Next.{Next}
use Rattle.calls.specs.declared.types.Next.TheVariants as next
use Rattle.calls.specs.declared.types.Domain.{Domain}
use Rattle.calls.specs.Answers.{code_of}
use Rattle.calls.specs.Records.{one_more, is_free, is_port}
use Rattle.calls.specs.Hypervisor.{accept_expand, expand_array_of, expand_array}
use Rattle.calls.specs.Guest.{mask_of}
use Rattle.machine.specs.declared.types.Side.TheVariants as side
use Rattle.machine.specs.declared.types.Start.TheVariants as start
use Rattle.machine.specs.declared.types.GuestStart.TheVariants as guest_start
use Rattle.machine.specs.declared.types.Step.TheVariants as step
use Rattle.machine.specs.Memory.{memory, Performed, did, performed, zero_page}
use Rattle.machine.specs.Exec.{World, Stepped, exec, list_of, hypervisor_answer}
use Rattle.access_log.specs.declared.line.Line.TheVariants as line
use Rattle.access_log.specs.declared.line.LoggedCall.{LoggedCall}
use Rattle.access_log.specs.declared.line.LoggedCall.TheVariants as call
use Rattle.access_log.specs.Line.{LegalCall, bytes_of}
use Rattle.access_log.specs.Event.{access_line, answer_line, line_of}
use Rattle.evtchn_fifo.specs.Encoded.{EncodedNext, Wrote, wrote, encoded_masking, encoded_answer, encoded_access}
use Rattle.evtchn_fifo.specs.DomainRecord.{domain_size, domain_at, pages_at, pages_in}
use Rattle.evtchn_fifo.specs.GuestRecord.{guest_size, words_at, words_in}
use Rattle.evtchn_fifo.specs.Hypervisor.{expand_bytes}
use Rattle.evtchn_fifo.specs.Guest.{mask_bytes, tell_bytes}
use Rattle.evtchn_fifo.specs.Claims.{MeantAlone}
use Rattle.evtchn_fifo.proofs.Meaning.{domain_calls}
use Rattle.exported.specs.Decoded.{decoded_next, decoded_answer, decoded_access}
use Rattle.exported.specs.Run as run
use Rattle.exported.specs.Run.{Bytes, world_of, ledger_kept, LongEnough, step_bytes}
use Rattle.exported.specs.Demands.{Starts}
use Rattle.exported.proofs.Meanings.{request_length}
use Rattle.exported.proofs.Runs.{step_is, added_is, mask_narrow}
use Rattle.std.specs.Prelude.{Option, Ok, Err}
use Rattle.replay.specs.declared.player.due.Due.{Due}
use Rattle.replay.specs.declared.player.due.Stop.TheVariants.{NotLent}
use Rattle.replay.specs.Replay.{Player, playing, next_line, frames, step_of_call, adds, told, ran, due_after, begins}
use Rattle.replay.specs.State.{world_in, due_lines, result_due, after_line}
use Rattle.replay.proofs.ResultLaws.{request_due, access_number, access_read, answer_read}
use Rattle.replay.proofs.StepLaws.{some_bits, narrow_small, call_exec, call_begins, hypervisor_began}

-- ---- a call's numbers

pub legal_expand : (frame : ℕ) → frame < 2 ^ 32 → LegalCall (call.ExpandArray frame)
unfolding LegalCall
legal_expand frame h = h

pub legal_mask : (p : Port) → p.0 < 2 ^ 32 → LegalCall (call.Mask p)
unfolding LegalCall
legal_mask p h = h

-- ---- a call by another name

pub as_legal : {c₀ c : LoggedCall} → c₀ ≡ c → LegalCall c₀ → LegalCall c
as_legal e h = subst LegalCall e h

pub as_begins : (w : World) (k : ℕ) {c₀ c : LoggedCall} {x : Player} → c₀ ≡ c → x ≡ begins link_bits w k c → x ≡ begins link_bits w k c₀
as_begins w k e h = h ∙ ap (begins link_bits w k) (sym e)

-- ---- an expand that adds a page leaves at most 128 pages

one_more_by : (b : Bool) (pages : ℕ) → pages < 128 → cond b (pages + 1) pages ≤ 128
one_more_by true pages h = omega arith
one_more_by false pages h = omega arith

accepted_pages : (a b c d : Bool) (x : Domain) → leb 128 x.pages ≡ c →
    ltb x.pages (expand_array_of x (cond a (Err CallUnderWay) (cond b (Err NotGiven) (cond c (Err TooManyPages) (cond d (Err BadFrame) (Ok tt)))))).domain.pages ≡ true →
    (expand_array_of x (cond a (Err CallUnderWay) (cond b (Err NotGiven) (cond c (Err TooManyPages) (cond d (Err BadFrame) (Ok tt)))))).domain.pages ≤ 128
unfolding one_more
accepted_pages true b c d x e h = omega (arith, ltb-true x.pages x.pages h)
accepted_pages false true c d x e h = omega (arith, ltb-true x.pages x.pages h)
accepted_pages false false true d x e h = omega (arith, ltb-true x.pages x.pages h)
accepted_pages false false false true x e h = omega (arith, ltb-true x.pages x.pages h)
accepted_pages false false false false x e h = one_more_by (ltb x.pages 0xFFFFFFFF) x.pages (omega (arith, leb-false 128 x.pages e))

expanded_pages : (x : Domain) (frame count : ℕ) → ltb x.pages (expand_array link_bits x frame count).domain.pages ≡ true →
    (expand_array link_bits x frame count).domain.pages ≤ 128
unfolding expand_array accept_expand
expanded_pages x frame count h =
    accepted_pages (not (is_free x.call.owner)) (not x.given) (leb 128 x.pages) (leb count frame) x refl h

pages_long : (d : List ℕ) → domain_size ≤ length d → pages_in d ≡ pages_at d
pages_long d h = simp (le-ltb (length d) domain_size h)

words_long : (g : List ℕ) → guest_size ≤ length g → words_in g ≡ words_at g
words_long g h = simp (le-ltb (length g) guest_size h)

module _ (d t g ws b : List ℕ) (domain-long : domain_size ≤ length d) (guest-long : guest_size ≤ length g) (k : ℕ) where
  abbrev lent : Bytes
  lent = record { domain = d; ledger = t; guest = g; memory = memory ws b }

  abbrev here : World
  here = world_in d t g ws b

  long : LongEnough lent
  long = record { domain = domain-long; guest = guest-long }

  -- ---- an expand

  module _ (frame : ℕ) (legal : LegalCall (call.ExpandArray frame)) (x : EncodedNext) (d' : List ℕ) (ran-expand : wrote x d' ≡ expand_bytes link_bits d frame frames) where
    adds_is : adds link_bits (domain_at d) (call.ExpandArray frame) ≡ eqb x.code 0
    unfolding adds
    adds_is = sym (added_is link_bits-width lent long frame frames) ∙ ap (λ (w : Wrote). eqb w.next.code 0) (sym ran-expand)

    no_page : eqb x.code 0 ≡ false → run.words_after link_bits d ws (start.ExpandArray frame frames) ≡ ws
    no_page h = simp (← ran-expand, h)

    pub expand_refused : (r : Option Due) (due : List ℕ) → eqb x.code 0 ≡ false → due_lines r due ≡ result_due side.Hypervisor x →
        after_line (Ok r) k due (world_in d' t g ws b) ≡ begins link_bits here k (call.ExpandArray frame)
    unfolding step_of_call run.start_bytes
    expand_refused r due h m =
        hypervisor_began d t g ws b domain-long guest-long (call.ExpandArray frame) (start.ExpandArray frame frames) x d' t k r due legal (adds_is ∙ h) refl (no_page h) (ap (ledger_kept t) ran-expand) m

    pub expand_past : (pages : ℕ) (due : List ℕ) (v : World) → eqb x.code 0 ≡ true → pages ≡ pages_in d → length ws < 1024 * (pages + 1) →
        after_line (Err NotLent) k due v ≡ begins link_bits here k (call.ExpandArray frame)
    unfolding after_line domain_at
    expand_past pages due v h p full =
        let f : ltb (length ws) (1024 * (pages_at d + 1)) ≡ true = lt-ltb _ _ (rw (sym (p ∙ pages_long d domain-long)) full) in
        simp (adds_is, h, f)

    -- her number of words follows
    abbrev zeroed : List ℕ
    zeroed = zero_page (pages_at d) ws

    abbrev added : World
    added = world_in d' t g zeroed b

    added_long : domain_size ≤ length d'
    unfolding run.start_bytes
    added_long =
        let e : length (expand_bytes link_bits d frame frames).record_bytes ≡ length d = request_length link_bits d (Starts (start.ExpandArray frame frames) t) in
        rw (ap (λ (w : Wrote). length w.record_bytes) ran-expand ∙ e) domain-long

    pages_after : pages_at d' ≡ (expand_array link_bits (domain_at d) frame frames).domain.pages
    unfolding domain_at
    pages_after =
        ap (λ (w : Wrote). pages_at w.record_bytes) ran-expand
        ∙ ap (λ (m : MeantAlone). m.domain.pages) (((domain_calls link_bits).expand_array_lem frame frames).means d domain-long)

    few_pages : eqb x.code 0 ≡ true → pages_at d' ≤ 128
    unfolding adds domain_at
    few_pages h = rw pages_after (expanded_pages (domain_at d) frame frames (adds_is ∙ h))

    told_is : eqb x.code 0 ≡ true → told link_bits added ≡ world_in d' t (tell_bytes g (1024 * pages_at d')).record_bytes zeroed b
    unfolding step_bytes domain_at
    told_is h =
        ap (λ (s : Stepped). s.world)
        (sym
        (step_is link_bits-width (record { domain = d'; ledger = t; guest = g; memory = memory zeroed b }) (record { domain = added_long; guest = guest-long }) (step.Guest (guest_start.Tell (1024 * pages_at d')))
        ∙ ap (λ (n : ℕ). exec link_bits added (step.Guest (guest_start.Tell n))) (narrow_small (1024 * pages_at d') (let p = few_pages h in omega arith))))

    expand_exec : eqb x.code 0 ≡ true → exec link_bits here (step_of_call (call.ExpandArray frame)) ≡ record { world = added; events = list_of (hypervisor_answer (decoded_next x)) }
    unfolding step_of_call step_bytes run.start_bytes
    expand_exec h =
        call_exec d t g ws b domain-long guest-long (call.ExpandArray frame) legal
        ∙ ap (λ (w : Wrote). record { world = world_in w.record_bytes t g (cond (eqb w.next.code 0) zeroed ws) b; events = list_of (hypervisor_answer (decoded_next w.next)) }) (sym ran-expand)
        ∙ simp h

    x_due : result_due side.Hypervisor x ≡ due_after (list_of (hypervisor_answer (decoded_next x)))
    unfolding run.start_bytes
    x_due =
        ap (λ (w : Wrote). result_due side.Hypervisor w.next) ran-expand
        ∙ request_due link_bits some_bits d domain-long (Starts (start.ExpandArray frame frames) t)
        ∙ ap (λ (w : Wrote). due_after (list_of (hypervisor_answer (decoded_next w.next)))) (sym ran-expand)

    expand_begins : eqb x.code 0 ≡ true → ltb (length ws) (1024 * (pages_at d + 1)) ≡ false →
        begins link_bits here k (call.ExpandArray frame) ≡ playing (world_in d' t (tell_bytes g (1024 * pages_at d')).record_bytes zeroed b) (result_due side.Hypervisor x) (next_line k)
    unfolding ran domain_at
    expand_begins h f =
        simp (adds_is, h, f)
        (ap (λ (s : Stepped). playing (told link_bits s.world) (due_after s.events) (next_line k)) (expand_exec h)
        ∙ ap (λ (w : World). playing w (due_after (list_of (hypervisor_answer (decoded_next x)))) (next_line k)) (told_is h)
        ∙ ap (λ (ds : List (List ℕ)). playing (world_in d' t (tell_bytes g (1024 * pages_at d')).record_bytes zeroed b) ds (next_line k)) (sym x_due))

    pub expand_added : (pages more : ℕ) (ws' g' : List ℕ) (z : EncodedNext) (r : Option Due) (due : List ℕ) → eqb x.code 0 ≡ true → pages ≡ pages_in d → 1024 * (pages + 1) ≤ length ws →
        ws' ≡ zero_page pages ws → more ≡ pages_in d' → wrote z g' ≡ tell_bytes g (1024 * more) → due_lines r due ≡ result_due side.Hypervisor x →
        after_line (Ok r) k due (world_in d' t g' ws' b) ≡ begins link_bits here k (call.ExpandArray frame)
    unfolding after_line
    expand_added pages more ws' g' z r due h p full zero q tell m =
        let p' : pages ≡ pages_at d = p ∙ pages_long d domain-long in
        let q' : more ≡ pages_at d' = q ∙ pages_long d' added_long in
        ap (λ (ds : List (List ℕ)). playing (world_in d' t g' ws' b) ds (next_line k)) m
        ∙ ap (λ (v : List ℕ). playing (world_in d' t g' v b) (result_due side.Hypervisor x) (next_line k)) (zero ∙ ap (λ (n : ℕ). zero_page n ws) p')
        ∙ ap (λ (w : Wrote). playing (world_in d' t w.record_bytes zeroed b) (result_due side.Hypervisor x) (next_line k)) (tell ∙ ap (λ (n : ℕ). tell_bytes g (1024 * n)) q')
        ∙ sym (expand_begins h (le-ltb _ _ (rw (sym p') full)))

  -- ---- a mask

  module _ (p : Port) (legal : LegalCall (call.Mask p)) (count : ℕ) (x : EncodedNext) (counted : count ≡ words_in g) (named : x ≡ mask_bytes link_bits p.0 count) where
    named_here : x ≡ mask_bytes link_bits p.0 (words_at g)
    named_here = named ∙ ap (mask_bytes link_bits p.0) (counted ∙ words_long g guest-long)

    mask_begins : begins link_bits here k (call.Mask p) ≡ playing (world_of (run.perform_mask lent (decoded_next x)).bytes) (due_after (run.perform_mask lent (decoded_next x)).events) (next_line k)
    unfolding step_of_call step_bytes adds
    mask_begins =
        call_begins d t g ws b domain-long guest-long (call.Mask p) k legal refl
        ∙ ap (λ (y : EncodedNext). playing (world_of (run.perform_mask lent (decoded_next y)).bytes) (due_after (run.perform_mask lent (decoded_next y)).events) (next_line k)) (sym named_here)

    abbrev Refused : EncodedNext → Type 0
    Refused y = ltb y.code 0x100 ≡ true → due_after (run.perform_mask lent (decoded_next y)).events ≡ result_due side.Guest y

    no_access : {A : Type 0} (a : Access) → ltb (encoded_access a).code 0x100 ≡ true → A
    no_access a h = absurd (false≢true (sym (access_number a) ∙ h))

    masking_by : (q : Port) (bad outside : Bool) → Refused (encoded_masking (cond bad (Err (record { answer = BadPort; count = 0 })) (cond outside (Err (record { answer = OutsideArray; count = 0 })) (Ok (record { access = Or (place.Word q) (mask Masked); answer = Done; count = 1 })))))
    unfolding encoded_masking encoded_answer code_of decoded_next decoded_answer due_after line_of answer_line result_due
    masking_by q true outside = λ h. refl
    masking_by q false true = λ h. refl
    masking_by q false false = λ h. no_access (Or (place.Word q) (mask Masked)) h

    masking_refused : (q : Port) (words : ℕ) → Refused (encoded_masking (mask_of link_bits q words))
    unfolding mask_of
    masking_refused q words = masking_by q (not (is_port link_bits q.0)) (leb words q.0)

    mask_due : ltb x.code 0x100 ≡ true → due_after (run.perform_mask lent (decoded_next x)).events ≡ result_due side.Guest x
    mask_due = rw (named_here ∙ mask_narrow link_bits-width lent long p.0 (words_at g)) (masking_refused _ (words_at g))

    pub mask_refused : (r : Option Due) (due : List ℕ) → ltb x.code 0x100 ≡ true → due_lines r due ≡ result_due side.Guest x →
        after_line (Ok r) k due here ≡ begins link_bits here k (call.Mask p)
    unfolding after_line
    mask_refused r due h m =
        ap (λ (ds : List (List ℕ)). playing here ds (next_line k)) m
        ∙ ap (λ (ds : List (List ℕ)). playing here ds (next_line k)) (sym (mask_due h))
        ∙ ap (λ (w : World). playing w (due_after (run.perform_mask lent (decoded_next x)).events) (next_line k)) (sym (ap (λ (y : Next). world_of (run.perform_mask lent y).bytes) (answer_read x h)))
        ∙ sym mask_begins

    abbrev masked_of : Access → Performed → Player
    masked_of a q =
        playing (world_in d t g q.memory.words q.memory.block) (bytes_of (access_line side.Guest a q.seen) ∷ bytes_of (answer_line side.Guest Done) ∷ []) (next_line k)

    masked_begins : (a : Access) → decoded_next x ≡ next.Access a → masked_of a (performed (memory ws b) a) ≡ begins link_bits here k (call.Mask p)
    unfolding due_after line_of
    masked_begins a e =
        sym
        (mask_begins
        ∙ ap (λ (y : Next). playing (world_of (run.perform_mask lent y).bytes) (due_after (run.perform_mask lent y).events) (next_line k)) e)

    pub mask_made : (a : Access) (ws' b' : List ℕ) (seen : ℕ) (r : Option Due) (due : List ℕ) → ltb x.code 0x100 ≡ false → decoded_access x ≡ a →
        did (memory ws' b') seen ≡ performed (memory ws b) a → due_lines r due ≡ bytes_of (access_line side.Guest a seen) ∷ bytes_of (line.Answer side.Guest 0) ∷ [] →
        after_line (Ok r) k due (world_in d t g ws' b') ≡ begins link_bits here k (call.Mask p)
    unfolding after_line answer_line code_of
    mask_made a ws' b' seen r due h f q m =
        ap (λ (ds : List (List ℕ)). playing (world_in d t g ws' b') ds (next_line k)) m
        ∙ (ap (masked_of a) q ∙ masked_begins a (access_read x h ∙ ap next.Access f))
