-- Document 01's rules imply those that demand 3 is proved under.
-- Assumes nothing.
use Rattle.std.specs.Prelude.{None, Option, Some, Result, Ok, Err}
use mathlib.Core.Path.{◌≡◌, refl}
use mathlib.Core.Bool.{Bool, true, false, not, ◌&&◌}
use mathlib.Core.List.{List, [], ◌∷◌}
use Prim.Native.Nat.{ℕ, ◌+◌, ◌≤◌, zero-le}
use native.Mathlib.Nat.{le_refl}
use native.Mathlib.Omega.{arith}
use lib.Dec.{eqb, ltb, leb}
use borrow.Author.Tests.{ltb-true, ltb-false, eqb-true}
use Rattle.word.specs.declared.Port.{Port}
use Rattle.word.specs.Word.{Width}
use Rattle.calls.specs.declared.types.Answer.{Answer}
use Rattle.calls.specs.declared.types.Next.{Next}
use Rattle.calls.specs.declared.types.Next.TheVariants as next
use Rattle.calls.specs.declared.types.Made.{Made}
use Rattle.calls.specs.declared.types.Refused.{Refused}
use Rattle.calls.specs.declared.types.Domain.{Domain}
use Rattle.calls.specs.declared.types.Guest.{Guest}
use Rattle.calls.specs.declared.types.GuestOutcome.{GuestOutcome}
use Rattle.calls.specs.declared.hypervisor.start.Begun.{Begun}
use Rattle.calls.specs.declared.hypervisor.start.Begun.TheVariants as begin
use Rattle.calls.specs.Records.{one_more, is_port, entry_at, is_free, is_clearing}
use Rattle.calls.specs.Hypervisor.{Turn, accept_expand, init_control_of, init_control, expand_array_of, expand_array, bind_start, close_start, set_priority, raise_start, unmask_start, started, moved, due_of, reply_found, reply_of}
use Rattle.calls.specs.Guest.{is_serving, service_start, guest_moved, service_reply, mask_of, tell_of}
use Rattle.calls.specs.ClearMask.{clear_mask_start, guest_reply, guest_due_of}
use Rattle.machine.specs.Memory.{Memory}
use Rattle.machine.specs.Exec.{World, exec, advance_of, expand_of, start_of, perform_side, perform_hypervisor_next, perform_hypervisor, perform_guest_next, perform_guest, perform_masking, perform_mask, guest_start_of, hand_back}
use Rattle.machine.specs.declared.types.Side.TheVariants as side
use Rattle.machine.specs.declared.types.Start.{Start}
use Rattle.machine.specs.declared.types.Start.TheVariants.{InitControl, ExpandArray, Bind, Close, SetPriority, Raise, Unmask}
use Rattle.machine.specs.declared.types.GuestStart.TheVariants.{Service, Mask, ClearMask, Tell}
use Rattle.machine.specs.declared.types.Step.{Step}
use Rattle.machine.specs.declared.types.Step.TheVariants as step
use Rattle.queue.proofs.Cases.{clash, by_cond, or_none}
use Rattle.interleaving.specs.Fresh.{array_words, fresh_world}
use Rattle.interleaving.specs.Rules.{Told, Allowed, KeepsRules, tells_array, tell_due, AllowedByDocument, KeepsDocumentRules, DocumentRules}
use Rattle.interleaving.specs.Demand3.{Demand3, Demand3ByDocument}
use Rattle.interleaving.proofs.Theorem.{demand3}

-- ---- the array never shrinks
init_pages : (n : ℕ) (d : Domain) (x : Result Unit Answer) → (init_control_of n d x).domain.pages ≡ d.pages
init_pages n d (Err a) = refl
init_pages n d (Ok tt) = refl

expand_pages : (d : Domain) (x : Result Unit Answer) → d.pages ≤ (expand_array_of d x).domain.pages
unfolding one_more
expand_pages d (Err a) = le_refl d.pages
expand_pages d (Ok tt) = by_cond (λ z. d.pages ≤ z) (ltb d.pages 0xFFFFFFFF) (d.pages + 1) d.pages (λ e. omega arith) (λ e. le_refl d.pages)

started_pages : (n : ℕ) (d : Domain) (ledger : List ℕ) (p : Port) (b : Result Begun Answer) → (started n d ledger p b).outcome.domain.pages ≡ d.pages
unfolding started
started_pages n d ledger p (Err a) = refl
started_pages n d ledger p (Ok (begin.UnderWay c)) = refl
started_pages n d ledger p (Ok (begin.Settled e)) = refl

start_pages : (n : ℕ) (d : Domain) (ledger words : List ℕ) (s : Start) → d.pages ≤ (start_of n d ledger words s).outcome.domain.pages
unfolding start_of init_control expand_of expand_array bind_start close_start set_priority raise_start unmask_start
start_pages n d ledger words (InitControl vcpu frame frames offset) = rw (init_pages n d _) (le_refl d.pages)
start_pages n d ledger words (ExpandArray frame frames) = expand_pages d (accept_expand n d.call.owner d.given d.pages frame frames)
start_pages n d ledger words (Bind p) = rw (started_pages n d ledger p _) (le_refl d.pages)
start_pages n d ledger words (Close p) = rw (started_pages n d ledger p _) (le_refl d.pages)
start_pages n d ledger words (SetPriority p r) = rw (started_pages n d ledger p _) (le_refl d.pages)
start_pages n d ledger words (Raise p) = rw (started_pages n d ledger p _) (le_refl d.pages)
start_pages n d ledger words (Unmask p) = rw (started_pages n d ledger p _) (le_refl d.pages)

found_pages : (n : ℕ) (d : Domain) (ledger : List ℕ) (seen : ℕ) (x : Option ℕ) → (reply_found n d ledger seen x).outcome.domain.pages ≡ d.pages
unfolding moved
found_pages n d ledger seen None = refl
found_pages n d ledger seen (Some e) = refl

reply_pages : (n : ℕ) (d : Domain) (ledger : List ℕ) (seen : ℕ) → (reply_of n d ledger seen).outcome.domain.pages ≡ d.pages
unfolding reply_of
reply_pages n d ledger seen = by_cond (λ (t : Turn). t.outcome.domain.pages ≡ d.pages) (is_free d.call.owner) _ (reply_found n d ledger seen (entry_at ledger d.call.port.0)) (λ e. refl) (λ e. found_pages n d ledger seen (entry_at ledger d.call.port.0))

perform_pages : (n : ℕ) (d : Domain) (ledger : List ℕ) (m : Memory) (x : Next) → (perform_hypervisor_next n d ledger m x).turn.outcome.domain.pages ≡ d.pages
perform_pages n d ledger m (next.Access a) = reply_pages n d ledger _
perform_pages n d ledger m (next.Answer a count) = reply_pages n d ledger 0

-- ---- only a tell changes the guest's number of words
module _ (n : ℕ) (g : Guest) where
  abbrev SameWords : GuestOutcome → Type 0
  SameWords o = o.guest.words ≡ g.words

  service_words : SameWords (service_start n g)
  unfolding service_start
  service_words = by_cond SameWords (is_clearing g.clear.stage) _ _ (λ e. refl) (λ e. by_cond SameWords (is_serving g.call.stage) _ _ (λ e. refl) (λ e. refl))

  clear_words : (p : Port) → SameWords (clear_mask_start n g p)
  unfolding clear_mask_start
  clear_words p = by_cond SameWords (is_clearing g.clear.stage) _ _ (λ e. refl)
      (λ e. by_cond SameWords (not (is_port n p.0)) _ _ (λ e. refl) (λ e. by_cond SameWords (leb g.words p.0) _ _ (λ e. refl) (λ e. refl)))

  reply_words : (seen : ℕ) → SameWords (guest_reply n g seen)
  unfolding guest_reply service_reply guest_moved
  reply_words seen = by_cond SameWords (is_clearing g.clear.stage) _ _ (λ e. refl) (λ e. by_cond SameWords (not (is_serving g.call.stage)) _ _ (λ e. refl) (λ e. refl))

  perform_words : (m : Memory) (x : Next) → SameWords (perform_guest_next n g m x).turn.outcome
  perform_words m (next.Access a) = reply_words _
  perform_words m (next.Answer a count) = reply_words 0

mask_words : (g : Guest) (m : Memory) (x : Result Made Refused) → (perform_masking g m x).turn.outcome.guest.words ≡ g.words
mask_words g m (Err r) = refl
mask_words g m (Ok y) = refl

-- ---- her number of words is never beyond the array's, and equal where no tell is due
record Follows (due : Bool) (w : World) : Type 0 where
  below : w.guest.words ≤ array_words w
  told : due ≡ false → Told w

-- a step of no tell
quiet : (due : Bool) (w v : World) (s : Step) → due ≡ false → w.domain.pages ≤ v.domain.pages → v.guest.words ≡ w.guest.words → Follows due w → Follows (tell_due due w s v) v
quiet due w v s d le e f = record {
  below = let b = f.below in omega arith;
  told = λ z. let t = f.told d in let g = ltb-false w.domain.pages v.domain.pages (or_none (ltb w.domain.pages v.domain.pages) (due && not (tells_array w s)) z).0 in omega arith;
}

-- a tell
tell_words : (g : Guest) (words size : ℕ) → g.words ≤ size → words ≤ size → ((tell_of g words).guest.words ≤ size) × ((g.words ≡ size → (tell_of g words).guest.words ≡ size) × (words ≡ size → (tell_of g words).guest.words ≡ size))
unfolding tell_of
tell_words g words size a b = by_cond (λ (o : GuestOutcome). (o.guest.words ≤ size) × ((g.words ≡ size → o.guest.words ≡ size) × (words ≡ size → o.guest.words ≡ size))) (ltb g.words words) _ _
    (λ e. let l = ltb-true g.words words e in (b, ((λ d. omega arith), (λ d. d))))
    (λ e. let l = ltb-false g.words words e in (a, ((λ d. d), (λ d. omega arith))))

told_now : (n : ℕ) (due : Bool) (w : World) (words : ℕ) → words ≤ array_words w → Follows due w → Follows (tell_due due w (step.Guest (Tell words)) (exec n w (step.Guest (Tell words))).world) (exec n w (step.Guest (Tell words))).world
unfolding advance_of guest_start_of
told_now n due w words le f = record { below = t.0; told = λ z. go due (eqb words (array_words w)) refl refl (or_none (ltb w.domain.pages w.domain.pages) _ z).1 }
  where
    t : ((tell_of w.guest words).guest.words ≤ array_words w) × ((w.guest.words ≡ array_words w → (tell_of w.guest words).guest.words ≡ array_words w) × (words ≡ array_words w → (tell_of w.guest words).guest.words ≡ array_words w))
    t = tell_words w.guest words (array_words w) f.below le

    go : (a b : Bool) → due ≡ a → eqb words (array_words w) ≡ b → a && not b ≡ false → (tell_of w.guest words).guest.words ≡ array_words w
    go false b d e z = t.1.0 (f.told d)
    go true true d e z = t.1.1 (eqb-true words (array_words w) e)
    go true false d e z = clash refl z

follows_step : (n : ℕ) (due : Bool) (w : World) (s : Step) → AllowedByDocument due w s → Follows due w → Follows (tell_due due w s (exec n w s).world) (exec n w s).world
unfolding advance_of perform_side perform_hypervisor perform_guest perform_mask guest_start_of hand_back
follows_step n due w (step.Hypervisor s) a f = quiet due w _ (step.Hypervisor s) a (start_pages n w.domain w.ledger w.memory.words s) refl f
follows_step n due w (step.Guest Service) a f = quiet due w _ (step.Guest Service) a (le_refl w.domain.pages) (service_words n w.guest) f
follows_step n due w (step.Guest (Mask p)) a f = quiet due w _ (step.Guest (Mask p)) a (le_refl w.domain.pages) (mask_words w.guest w.memory (mask_of n p w.guest.words)) f
follows_step n due w (step.Guest (ClearMask p)) a f = quiet due w _ (step.Guest (ClearMask p)) a (le_refl w.domain.pages) (clear_words n w.guest p) f
follows_step n due w (step.Guest (Tell words)) a f = told_now n due w words a f
follows_step n due w (step.Perform side.Hypervisor) a f = quiet due w _ (step.Perform side.Hypervisor) a (rw (perform_pages n w.domain w.ledger w.memory (due_of n w.domain)) (le_refl w.domain.pages)) refl f
follows_step n due w (step.Perform side.Guest) a f = quiet due w _ (step.Perform side.Guest) a (le_refl w.domain.pages) (perform_words n w.guest w.memory (guest_due_of n w.guest)) f
follows_step n due w (step.HandBack side.Hypervisor word) a f = quiet due w _ (step.HandBack side.Hypervisor word) a.0 (rw (reply_pages n w.domain w.ledger word) (le_refl w.domain.pages)) refl f
follows_step n due w (step.HandBack side.Guest word) a f = quiet due w _ (step.HandBack side.Guest word) a.0 (le_refl w.domain.pages) (reply_words n w.guest word) f

allowed : (due : Bool) (w : World) (s : Step) → Follows due w → AllowedByDocument due w s → Allowed w s
allowed due w (step.Hypervisor s) f a = tt
allowed due w (step.Guest Service) f a = f.told a
allowed due w (step.Guest (Mask p)) f a = f.told a
allowed due w (step.Guest (ClearMask p)) f a = f.told a
allowed due w (step.Guest (Tell words)) f a = a
allowed due w (step.Perform side.Hypervisor) f a = tt
allowed due w (step.Perform side.Guest) f a = f.told a
allowed due w (step.HandBack side.Hypervisor word) f a = a.1
allowed due w (step.HandBack side.Guest word) f a = a.1

follows_rules : (n : ℕ) (due : Bool) (w : World) (ss : List Step) → Follows due w → KeepsDocumentRules n due w ss → KeepsRules n w ss
follows_rules n due w [] f a = tt
follows_rules n due w (s ∷ ss) f a = (allowed due w s f a.0, follows_rules n (tell_due due w s (exec n w s).world) (exec n w s).world ss (follows_step n due w s a.0 f) a.1)

-- from a fresh world, where no tell is due
pub document_rules : (n : ℕ) → DocumentRules n
document_rules n lent entries ss a = follows_rules n false (fresh_world lent entries) ss (record { below = zero-le; told = λ e. refl }) a

-- so demand 3's claim holds under document 01's own rules
pub demand3_by_document : {n : ℕ} → Width n → Demand3ByDocument n
unfolding Demand3 Demand3ByDocument
demand3_by_document {n} wide lent entries steps le rules = demand3 wide lent entries steps le (document_rules n lent entries steps rules)
