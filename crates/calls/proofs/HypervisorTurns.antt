-- Every start and reply of the hypervisor's side is one of four: refused, settled at once, begun on a port that is accepted,
-- or a step carried out.
-- Assumes nothing.
use Rattle.std.specs.Prelude.{Result, Ok, Err}
use Prim.Native.Nat.{ℕ, ◌≤◌, ◌<◌}
use mathlib.Core.Path.{◌≡◌, refl}
use mathlib.Core.Bool.{Bool, true, false, cond, not}
use mathlib.Core.List.{List}
use native.Mathlib.Nat.{le_refl}
use borrow.Author.Tests.{eqb-false, ltb-true, ltb-false, not-false}
use lib.ListN.{length, get_or, set, length-set}
use lib.Seq.{get_or-set_other}
use lib.Dec.{eqb, leb, ltb}
use Rattle.word.specs.declared.Port.{Port}
use Rattle.word.specs.declared.Priority.{Priority}
use Rattle.word.specs.Word.{queue_at}
use Rattle.word.specs.Entry.{bound}
use Rattle.calls.specs.declared.types.Answer.{Answer}
use Rattle.calls.specs.declared.types.Answer.TheVariants.{Done, NoCall, NoEntry}
use Rattle.calls.specs.declared.types.Owner.{Owner}
use Rattle.calls.specs.declared.types.Owner.TheVariants as owner
use Rattle.calls.specs.declared.types.Stage.TheVariants.{First}
use Rattle.calls.specs.declared.types.Domain.{Domain}
use Rattle.calls.specs.declared.hypervisor.stage.Move.{Move}
use Rattle.calls.specs.declared.hypervisor.start.Begun.{Begun}
use Rattle.calls.specs.declared.hypervisor.start.Begun.TheVariants as begin
use Rattle.calls.specs.Answers.{code_of}
use Rattle.calls.specs.Records.{page_limit, is_port, in_array, entry_at, is_free, call_at, with_call}
use Rattle.calls.specs.Hypervisor.{Turn, turn, answered, going_on, carried_out, is_offset, accept_init, accept_expand, entry_or14, accept_port, first_access, bind_entry, close_entry, priority_entry, link_entry, begin_bind, begin_close, begin_priority, begin_link, init_control_of, init_control, expand_array_of, expand_array, started, bind_start, close_start, set_priority, raise_start, unmask_start, view_of, staged, reply_found, reply_of}
use Rattle.calls.specs.Claims.{Start, InitControl, ExpandArray, Bind, Close, Raise, Unmask, SetPriority, Act, Starts, Replies, turn_of, lent, is_refusal, starts_on, is_about, EqualBut}
use Rattle.calls.proofs.Cases.{choose, by_test}
use Rattle.calls.proofs.RecordLaws.{one_more_lem}
use Rattle.calls.proofs.HypervisorSteps.{Kept, kept}

-- 7
abbrev pub is_still_linked : Answer → Bool
is_still_linked a = eqb (code_of a).number 7

-- a turn is refused that leaves the record and the ledger: a start by its row of refusals, a reply with 16 or 14
pub data Refusal (d : Domain) : Act → Answer → Type 0 where
  at_start : {s : Start} {ledger : List ℕ} {a : Answer} → is_still_linked a ≡ false → Refusal d (Starts s ledger) a
  sixteen : {seen : ℕ} {ledger : List ℕ} → is_free d.call.owner ≡ true → Refusal d (Replies seen ledger) NoCall
  fourteen : {seen : ℕ} {ledger : List ℕ} → is_free d.call.owner ≡ false → length ledger ≤ d.call.port.0 → Refusal d (Replies seen ledger) NoEntry

-- the port of a call that begins
pub record Accepted (n pages entries p : ℕ) : Type 0 where
  pub port : is_port n p ≡ true
  pub inside : in_array pages p ≡ true
  pub entry : p < entries

-- the entry of the call's port, and the step that a reply carries out
abbrev pub entry_of : Domain → List ℕ → ℕ
entry_of d ledger = get_or ledger d.call.port.0 0

abbrev pub reply_move : Domain → List ℕ → ℕ → Move
reply_move d ledger seen = staged d.call (entry_of d ledger) (view_of d (entry_of d ledger)) seen

pub data Kind (n : ℕ) (d : Domain) : Act → Turn → Type 0 where
  refused : {act : Act} {a : Answer} → Refusal d act a → Kind n d act (turn (answered d a) (lent act))
  settled : {s : Start} {given : Bool} {pages : ℕ} {a : Answer} {before after : List ℕ} → is_refusal a ≡ false → d.pages ≤ pages → EqualBut (is_about d (Starts s before)) before after →
      Kind n d (Starts s before) (turn (answered (record { given = given; pages = pages; tails = d.tails; call = d.call }) a) after)
  begun : {s : Start} {ledger : List ℕ} {o : Owner} {p : Port} → is_free o ≡ false → Accepted n d.pages (length ledger) p.0 →
      Kind n d (Starts s ledger) (turn (going_on n (with_call d (call_at o First p (queue_at 0) 1)) Done 0) ledger)
  carried : {seen : ℕ} {ledger : List ℕ} → is_free d.call.owner ≡ false → Kept d.call.stage d.call (entry_of d ledger) (reply_move d ledger seen) →
      Kind n d (Replies seen ledger) (carried_out n d ledger (reply_move d ledger seen))

pub equal_itself : {test : ℕ → Bool} {ledger : List ℕ} → EqualBut test ledger ledger
equal_itself = record { size = refl; others = λ k h. refl }

pub equal_set : {test : ℕ → Bool} (ledger : List ℕ) (p e : ℕ) → ((k : ℕ) → test k ≡ false → eqb k p ≡ false) → EqualBut test ledger (set ledger p e)
equal_set ledger p e t = record { size = length-set ledger p e; others = λ k h. get_or-set_other ledger p k e 0 (eqb-false k p (t k h)) }

-- ---- what the rows of refusals come to

data Accepts : Result Unit Answer → Type 0 where
  refuses : {a : Answer} → is_still_linked a ≡ false → Accepts (Err a)
  accepts : Accepts (Ok tt)

data AcceptsPort (n : ℕ) (ledger : List ℕ) (p : Port) : Result ℕ Answer → Type 0 where
  refuses_port : {a : Answer} → is_still_linked a ≡ false → AcceptsPort n ledger p (Err a)
  accepts_port : {e : ℕ} → is_port n p.0 ≡ true → p.0 < length ledger → AcceptsPort n ledger p (Ok e)

data Begins (n pages : ℕ) (ledger : List ℕ) (p : Port) : Result Begun Answer → Type 0 where
  refuses_call : {a : Answer} → is_still_linked a ≡ false → Begins n pages ledger p (Err a)
  begins : {o : Owner} → is_free o ≡ false → Accepted n pages (length ledger) p.0 → Begins n pages ledger p (Ok (first_access o p))
  settles : {e : ℕ} → Begins n pages ledger p (Ok (begin.Settled e))

accepts_init : (o : Owner) (given : Bool) (vcpu frame frames offset : ℕ) → Accepts (accept_init o given vcpu frame frames offset)
unfolding accept_init code_of
accepts_init o given vcpu frame frames offset =
    choose Accepts (not (is_free o)) (refuses refl)
    (choose Accepts (not (eqb vcpu 0)) (refuses refl)
    (choose Accepts given (refuses refl)
    (choose Accepts (leb frames frame) (refuses refl)
    (choose Accepts (not (is_offset offset)) (refuses refl) accepts))))

accepts_expand : (n : ℕ) (o : Owner) (given : Bool) (pages frame frames : ℕ) → Accepts (accept_expand n o given pages frame frames)
unfolding accept_expand code_of
accepts_expand n o given pages frame frames =
    choose Accepts (not (is_free o)) (refuses refl)
    (choose Accepts (not given) (refuses refl)
    (choose Accepts (leb (page_limit n) pages) (refuses refl)
    (choose Accepts (leb frames frame) (refuses refl) accepts)))

module _ (n : ℕ) (ledger : List ℕ) (p : Port) where
  accepts_port_lem : (o : Owner) (given : Bool) → AcceptsPort n ledger p (accept_port n o given p (entry_at ledger p.0))
  unfolding accept_port entry_at code_of
  accepts_port_lem o given =
      choose (AcceptsPort n ledger p) (not (is_free o)) (refuses_port refl)
      (choose (AcceptsPort n ledger p) (not given) (refuses_port refl)
      (by_test (AcceptsPort n ledger p) (not (is_port n p.0)) (λ h. refuses_port refl)
      (λ h. by_test (λ found. AcceptsPort n ledger p (entry_or14 found)) (ltb p.0 (length ledger)) (λ l. accepts_port (not-false _ h) (ltb-true _ _ l)) (λ l. refuses_port refl))))

  module _ (pages : ℕ) where
    -- where the port is in the array a call begins
    begins_inside : (o : Owner) {other : Result Begun Answer} → is_free o ≡ false → is_port n p.0 ≡ true → p.0 < length ledger → Begins n pages ledger p other →
        Begins n pages ledger p (cond (in_array pages p.0) (Ok (first_access o p)) other)
    begins_inside o busy port entry b =
        by_test (Begins n pages ledger p) (in_array pages p.0) (λ h. begins busy (record { port = port; inside = h; entry = entry })) (λ h. b)

    begins_bind : {a : Result ℕ Answer} → AcceptsPort n ledger p a → Begins n pages ledger p (bind_entry pages p a)
    unfolding code_of is_free
    begins_bind (refuses_port h) = refuses_call h
    begins_bind (accepts_port {e} port entry) = choose (Begins n pages ledger p) (bound e) (refuses_call refl) (begins_inside owner.Bind refl port entry settles)

    begins_close : {a : Result ℕ Answer} → AcceptsPort n ledger p a → Begins n pages ledger p (close_entry pages p a)
    unfolding code_of is_free
    begins_close (refuses_port h) = refuses_call h
    begins_close (accepts_port {e} port entry) = choose (Begins n pages ledger p) (not (bound e)) (refuses_call refl) (begins_inside owner.Close refl port entry settles)

    begins_priority : (r : Priority) {a : Result ℕ Answer} → AcceptsPort n ledger p a → Begins n pages ledger p (priority_entry r a)
    unfolding code_of
    begins_priority r (refuses_port h) = refuses_call h
    begins_priority r (accepts_port port entry) = choose (Begins n pages ledger p) (ltb 15 r.0) (refuses_call refl) settles

    begins_link : (starts : Owner) → is_free starts ≡ false → {a : Result ℕ Answer} → AcceptsPort n ledger p a → Begins n pages ledger p (link_entry starts pages p a)
    unfolding code_of
    begins_link starts busy (refuses_port h) = refuses_call h
    begins_link starts busy (accepts_port {e} port entry) =
        choose (Begins n pages ledger p) (not (bound e)) (refuses_call refl)
        (by_test (Begins n pages ledger p) (not (in_array pages p.0)) (λ h. refuses_call refl)
        (λ h. begins busy (record { port = port; inside = not-false _ h; entry = entry })))

-- ---- every turn

module _ (n : ℕ) (d : Domain) (ledger : List ℕ) where
  kind_init : (s : Start) {a : Result Unit Answer} → Accepts a → Kind n d (Starts s ledger) (turn (init_control_of n d a) ledger)
  unfolding code_of
  kind_init s (refuses h) = refused (at_start h)
  kind_init s accepts = settled refl (le_refl _) equal_itself

  kind_expand : (s : Start) {a : Result Unit Answer} → Accepts a → Kind n d (Starts s ledger) (turn (expand_array_of d a) ledger)
  unfolding code_of
  kind_expand s (refuses h) = refused (at_start h)
  kind_expand s accepts = settled refl (one_more_lem d.pages) equal_itself

  kind_started : (s : Start) (p : Port) {b : Result Begun Answer} → ((k : ℕ) → starts_on s k ≡ false → eqb k p.0 ≡ false) → Begins n d.pages ledger p b → Kind n d (Starts s ledger) (started n d ledger p b)
  unfolding code_of started
  kind_started s p t (refuses_call h) = refused (at_start h)
  kind_started s p t (begins busy on) = begun busy on
  kind_started s p t (settles {e}) = settled refl (le_refl _) (equal_set ledger p.0 e t)

  kind_start : (s : Start) → Kind n d (Starts s ledger) (turn_of n d (Starts s ledger))
  unfolding init_control expand_array bind_start close_start set_priority raise_start unmask_start begin_bind begin_close begin_priority begin_link is_free
  kind_start (InitControl vcpu frame frames offset) = kind_init _ (accepts_init _ _ vcpu frame frames offset)
  kind_start (ExpandArray frame frames) = kind_expand _ (accepts_expand n _ _ _ frame frames)
  kind_start (Bind p) = kind_started _ p (λ k h. h) (begins_bind n ledger p _ (accepts_port_lem n ledger p _ _))
  kind_start (Close p) = kind_started _ p (λ k h. h) (begins_close n ledger p _ (accepts_port_lem n ledger p _ _))
  kind_start (Raise p) = kind_started _ p (λ k h. h) (begins_link n ledger p _ owner.Raise refl (accepts_port_lem n ledger p _ _))
  kind_start (Unmask p) = kind_started _ p (λ k h. h) (begins_link n ledger p _ owner.Unmask refl (accepts_port_lem n ledger p _ _))
  kind_start (SetPriority p r) = kind_started _ p (λ k h. h) (begins_priority n ledger p _ r (accepts_port_lem n ledger p _ _))

  kind_reply : (seen : ℕ) → Kind n d (Replies seen ledger) (reply_of n d ledger seen)
  unfolding reply_of entry_at
  kind_reply seen =
      by_test (Kind n d (Replies seen ledger)) (is_free d.call.owner) (λ h. refused (sixteen h))
      (λ h. by_test (λ found. Kind n d (Replies seen ledger) (reply_found n d ledger seen found)) (ltb d.call.port.0 (length ledger))
      (λ l. carried h (kept d.call _ seen h (view_of d _))) (λ l. refused (fourteen h (ltb-false _ _ l))))

pub kind : (n : ℕ) (d : Domain) (act : Act) → Kind n d act (turn_of n d act)
kind n d (Starts s ledger) = kind_start n d ledger s
kind n d (Replies seen ledger) = kind_reply n d ledger seen
