-- The face after the start of a call: it stays where the start is refused, and else moves as the face alone tells. n is the number of
-- link bits.
-- Assumes nothing.
use Rattle.std.specs.Prelude.{Result, Ok, Err}
use Prim.Native.Nat.{ℕ, zero, suc}
use mathlib.Core.Path.{◌≡◌, refl, sym, ap, ◌∙◌}
use mathlib.Core.Bool.{true, false, cond, not, ◌&&◌, true≢false}
use mathlib.Core.List.{List, [], ◌∷◌, map}
use borrow.Author.Tests.{ne_eqb, not-false}
use lib.ListN.{length, get_or, set}
use lib.Seq.{map-set_same}
use lib.Dec.{eqb, leb, ltb}
use Rattle.word.specs.declared.Port.{Port}
use Rattle.word.specs.declared.Priority.{Priority}
use Rattle.word.specs.Entry.{bound, bound_entry}
use Rattle.word.proofs.EntryLaws.{bound-bound_entry, bound-closed_entry, bound-with_priority}
use Rattle.calls.specs.declared.types.Answer.{Answer}
use Rattle.calls.specs.declared.types.Answer.TheVariants.{BadPort, NotBound, AlreadyBound, AlreadyGiven, NotGiven, BadFrame, BadOffset, TooManyPages, NoEntry, CallUnderWay, BadVcpu}
use Rattle.calls.specs.declared.types.Owner.{Owner}
use Rattle.calls.specs.declared.types.Owner.TheVariants as owner
use Rattle.calls.specs.declared.types.Call.{Call}
use Rattle.calls.specs.declared.types.Domain.{Domain}
use Rattle.calls.specs.declared.hypervisor.start.Begun.{Begun}
use Rattle.calls.specs.declared.hypervisor.start.Begun.TheVariants as begin
use Rattle.calls.specs.Answers.{code_of}
use Rattle.calls.specs.Records.{page_limit, is_port, in_array, entry_at, is_free}
use Rattle.calls.specs.Hypervisor.{Turn, turn, answered, is_offset, accept_init, accept_expand, entry_or14, accept_port, bind_entry, close_entry, priority_entry, link_entry, begin_bind, begin_close, begin_priority, begin_link, first_access, init_control_of, init_control, expand_array_of, expand_array, started, bind_start, close_start, set_priority, raise_start, unmask_start, next_of}
use Rattle.calls.specs.Claims.{is_refusal}
use Rattle.calls.proofs.Cases.{choose, by_test}
use Rattle.machine.specs.declared.types.Start.{Start}
use Rattle.machine.specs.declared.types.Start.TheVariants.{InitControl, ExpandArray, Bind, Close, SetPriority, Raise, Unmask}
use Rattle.machine.specs.declared.types.Event.{Event}
use Rattle.machine.specs.declared.types.Event.TheVariants.{Nothing, HypervisorAccess, GuestAccess, ClearAccess, MaskAccess, HypervisorAnswer, GuestAnswer}
use Rattle.machine.specs.Exec.{expand_of, start_of}
use Rattle.fence.specs.System.{closes_at_start, falls_by}
use Rattle.fence.specs.Fence.{refuses, weakest}
use Rattle.interleaving.specs.Lengths.{is_first}
use Rattle.fence.proofs.FaceOf.{quiet, first_by, under_way_of, face_of, face_after, answer_of, with_under_way, begun, start_falls}

-- ---- bound bits, calls under way, and what falls

pub bounds_set : (l : List ℕ) (i e : ℕ) → map bound (set l i e) ≡ set (map bound l) i (bound e)
bounds_set [] i e = refl
bounds_set (x ∷ l) zero e = refl
bounds_set (x ∷ l) (suc i) e = ap (λ m. bound x ∷ m) (bounds_set l i e)

free_first : (o : Owner) (p : ℕ) → is_free o ≡ true → first_by o p ≡ quiet
unfolding is_free
free_first owner.None p e = refl
free_first owner.Bind p e = absurd (true≢false (sym e))
free_first owner.Close p e = absurd (true≢false (sym e))
free_first owner.Raise p e = refl
free_first owner.Unmask p e = refl

pub free_quiet : (c : Call) → is_free c.owner ≡ true → under_way_of c ≡ quiet
free_quiet c h = choose (λ u. u ≡ quiet) (is_first c.stage) (free_first c.owner c.port.0 h) refl

-- where nothing closes, nothing falls; nor where the answer is a refusal
pub none_falls : (x : Event) → falls_by x 0 ≡ 0
none_falls Nothing = refl
none_falls (HypervisorAccess c a seen) = refl
none_falls (GuestAccess c a seen) = refl
none_falls (ClearAccess c a seen) = refl
none_falls (MaskAccess a seen) = refl
none_falls (HypervisorAnswer a count) = choose (λ (k : ℕ). k ≡ 0) (eqb (code_of a).number 0) refl refl
none_falls (GuestAnswer a count) = refl

refusal_not_0 : (k : ℕ) → (leb 3 k && leb k 18) ≡ true → eqb k 0 ≡ false
refusal_not_0 k h = ne_eqb k 0 (λ e. true≢false (sym h ∙ ap (λ (j : ℕ). leb 3 j && leb j 18) e))

-- ---- each start

module _ (n : ℕ) (d : Domain) (ledger : List ℕ) where
  -- the start c comes to t
  pub record Goes (c : Start) (t : Turn) : Type 0 where
    pub face : face_after t ≡ cond (weakest c && refuses (answer_of t)) (face_of d ledger) (begun (face_of d ledger) c)
    pub falls : falls_by (answer_of t) (closes_at_start c) ≡ cond (weakest c && refuses (answer_of t)) 0 (start_falls (face_of d ledger) c)

  refusing : (c : Start) → weakest c ≡ true → (a : Answer) → is_refusal a ≡ true → Goes c (turn (answered d a) ledger)
  refusing c asked a h = record { face = rw (asked, h); falls = rw (asked, h, refusal_not_0 (code_of a).number h) }

  init_goes : (vcpu frame frames offset : ℕ) →
      Goes (InitControl vcpu frame frames offset) (turn (init_control n d vcpu frame frames offset) ledger)
  unfolding init_control accept_init code_of
  init_goes vcpu frame frames offset =
      choose P (not (is_free d.call.owner)) (refusing _ refl CallUnderWay refl)
      (choose P (not (eqb vcpu 0)) (refusing _ refl BadVcpu refl)
      (choose P d.given (refusing _ refl AlreadyGiven refl)
      (choose P (leb frames frame) (refusing _ refl BadFrame refl)
      (choose P (not (is_offset offset)) (refusing _ refl BadOffset refl) (record { face = refl; falls = refl })))))
    where
      P : Result Unit Answer → Type 0
      P a = Goes (InitControl vcpu frame frames offset) (turn (init_control_of n d a) ledger)

  expand_goes : (frame frames : ℕ) → Goes (ExpandArray frame frames) (turn (expand_array n d frame frames) ledger)
  unfolding expand_array accept_expand code_of
  expand_goes frame frames =
      choose P (not (is_free d.call.owner)) (refusing _ refl CallUnderWay refl)
      (choose P (not d.given) (refusing _ refl NotGiven refl)
      (choose P (leb (page_limit n) d.pages) (refusing _ refl TooManyPages refl)
      (choose P (leb frames frame) (refusing _ refl BadFrame refl) (record { face = refl; falls = refl }))))
    where
      P : Result Unit Answer → Type 0
      P a = Goes (ExpandArray frame frames) (turn (expand_array_of d a) ledger)

  module _ (p : Port) where
    abbrev entry : ℕ
    entry = get_or ledger p.0 0

    -- every call on a port
    on_port_lem : (P : Result ℕ Answer → Type 0) → ((a : Answer) → is_refusal a ≡ true → P (Err a)) →
        (is_free d.call.owner ≡ true → P (Ok entry)) →
        P (accept_port n d.call.owner d.given p (entry_at ledger p.0))
    unfolding accept_port entry_at code_of
    on_port_lem P refuse accept =
        by_test P (not (is_free d.call.owner)) (λ h. refuse CallUnderWay refl)
        (λ h. choose P (not d.given) (refuse NotGiven refl)
        (choose P (not (is_port n p.0)) (refuse BadPort refl)
        (choose (λ found. P (entry_or14 found)) (ltb p.0 (length ledger)) (accept (not-false _ h)) (refuse NoEntry refl))))

    bind_goes : Goes (Bind p) (bind_start n d ledger p)
    unfolding bind_start begin_bind started next_of is_free code_of
    bind_goes =
        on_port_lem (λ a. P (bind_entry d.pages p a)) (refusing (Bind p) refl)
        (λ free. choose P (bound entry) (refusing (Bind p) refl AlreadyBound refl)
        (by_test P (in_array d.pages p.0) {x = Ok (first_access owner.Bind p)} {y = Ok (begin.Settled (bound_entry entry))} (λ h. record { face = rw h; falls = refl })
        (λ h. record { face = rw h (simp (bounds_set, bound-bound_entry)); falls = refl })))
      where
        P : Result Begun Answer → Type 0
        P b = Goes (Bind p) (started n d ledger p b)

    close_goes : Goes (Close p) (close_start n d ledger p)
    unfolding close_start begin_close started next_of is_free code_of
    close_goes =
        on_port_lem (λ a. P (close_entry d.pages p a)) (refusing (Close p) refl)
        (λ free. choose P (not (bound entry)) (refusing (Close p) refl NotBound refl)
        (by_test P (in_array d.pages p.0) (λ h. record { face = rw h; falls = rw h })
        (λ h. record { face = rw h (simp (bounds_set, bound-closed_entry)); falls = rw h })))
      where
        P : Result Begun Answer → Type 0
        P b = Goes (Close p) (started n d ledger p b)

    -- the others leave it
    abbrev Stays : Result Begun Answer → Type 0
    Stays b = face_after (started n d ledger p b) ≡ face_of d ledger

    priority_stays : (r : Priority) → face_after (set_priority n d ledger p r) ≡ face_of d ledger
    unfolding set_priority begin_priority started
    priority_stays r =
        on_port_lem (λ a. Stays (priority_entry r a)) (λ a h. refl)
        (λ free. choose Stays (ltb 15 r.0) refl (rw (map-set_same bound ledger p.0 _ 0 (bound-with_priority entry r.0))))

    link_stays : (o : Owner) → first_by o p.0 ≡ quiet →
        Stays (begin_link n o d.call.owner d.given d.pages p (entry_at ledger p.0))
    unfolding begin_link started
    link_stays o h =
        on_port_lem (λ a. Stays (link_entry o d.pages p a)) (λ a h. refl)
        (λ free. choose Stays (not (bound entry)) refl
        (choose Stays (not (in_array d.pages p.0)) refl
        (ap (with_under_way (face_of d ledger)) (h ∙ sym (free_quiet d.call free)))))

  pub start_goes : (ws : List ℕ) (c : Start) → Goes c (turn (start_of n d ledger ws c).outcome (start_of n d ledger ws c).ledger)
  unfolding start_of expand_of raise_start unmask_start
  start_goes ws (InitControl vcpu frame frames offset) = init_goes vcpu frame frames offset
  start_goes ws (ExpandArray frame frames) = expand_goes frame frames
  start_goes ws (Bind p) = bind_goes p
  start_goes ws (Close p) = close_goes p
  start_goes ws (SetPriority p r) = record { face = priority_stays p r; falls = none_falls (answer_of (set_priority n d ledger p r)) }
  start_goes ws (Raise p) = record { face = link_stays p owner.Raise refl; falls = none_falls (answer_of (raise_start n d ledger p)) }
  start_goes ws (Unmask p) = record { face = link_stays p owner.Unmask refl; falls = none_falls (answer_of (unmask_start n d ledger p)) }
