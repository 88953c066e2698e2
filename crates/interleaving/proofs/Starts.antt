-- The starts of the hypervisor's calls.
-- Assumes nothing.
use Rattle.std.specs.Prelude.{Some, None, Result, Ok, Err}
use mathlib.Core.Path.{◌≡◌, refl, sym, ap, ◌∙◌, subst}
use mathlib.Core.Logic.{◌≢◌}
use mathlib.Core.Bool.{Bool, true, false, cond, not, ◌&&◌}
use mathlib.Core.List.{List, ◌++◌}
use Prim.Native.Nat.{ℕ, ◌+◌, ◌*◌, ◌/◌, ◌^◌, ◌≤◌, ◌<◌, zero-le}
use native.Mathlib.Omega.{arith}
use lib.Dec.{eqb, ltb, leb, lit≤}
use lib.ListN.{length, get_or, length-set}
use lib.Pow.{pow_mono}
use borrow.Author.Tests.{ltb-true, ltb-false, lt-ltb, le-ltb, leb-true, leb-false, eqb-false, eq-eqb, ne_eqb, not-true, not-false}
use Rattle.word.specs.declared.Port.{Port}
use Rattle.word.specs.declared.Priority.{Priority}
use Rattle.word.specs.declared.Flag.TheVariants.{Linked}
use Rattle.word.specs.Word.{Width, queue_at}
use Rattle.word.specs.Entry.{bound, last_queue, ever_linked}
use Rattle.word.proofs.WordLaws.{has_zero}
use Rattle.word.proofs.EntryLaws.{last_queue-with_priority, ever_linked-with_priority, last_queue-bound_entry, ever_linked-bound_entry, last_queue-closed_entry, ever_linked-closed_entry}
use Rattle.calls.specs.declared.types.Answer.{Answer}
use Rattle.calls.specs.declared.types.Answer.TheVariants.{Done, LinkBits}
use Rattle.calls.specs.declared.types.Next.{Next}
use Rattle.calls.specs.declared.types.Next.TheVariants as next
use Rattle.calls.specs.declared.types.Owner.{Owner}
use Rattle.calls.specs.declared.types.Owner.TheVariants as owner
use Rattle.calls.specs.declared.types.Stage.{Stage}
use Rattle.calls.specs.declared.types.Stage.TheVariants as stage
use Rattle.calls.specs.declared.types.Call as calls
use Rattle.calls.specs.declared.hypervisor.start.Begun.{Begun as Beginning}
use Rattle.calls.specs.declared.hypervisor.start.Begun.TheVariants as begin
use Rattle.calls.specs.Answers.{code_of}
use Rattle.calls.specs.Records.{one_more, page_limit, is_port, in_array, entry_at, is_free, call_at, with_call}
use Rattle.calls.specs.Hypervisor.{accept_init, accept_expand, accept_port, entry_or14, first_access, bind_entry, close_entry, priority_entry, link_entry, begin_bind, begin_close, begin_priority, begin_link, answered, next_of, init_control_of, init_control, expand_array_of, expand_array, bind_start, close_start, set_priority, raise_start, unmask_start}
use Rattle.calls.specs.Hypervisor as hypervisor
use Rattle.machine.specs.Memory.{memory, zero_page}
use Rattle.machine.proofs.MemoryLaws.{page_at, page_length}
use Rattle.machine.specs.Exec.{World, list_of, hypervisor_answer, started, turned, start_step, expand_of, page_added, start_of}
use Rattle.machine.specs.declared.types.Start.{Start}
use Rattle.machine.specs.declared.types.Start.TheVariants.{InitControl, ExpandArray, Bind, Close, SetPriority, Raise, Unmask}
use Rattle.machine.specs.declared.types.Event.{Event}
use Rattle.queue.specs.Model.{Kind, zero_word}
use Rattle.queue.specs.Model.Kind.{at_r1, at_u1, at_bind, at_close}
use Rattle.queue.specs.Model.Call.{idle, asks}
use Rattle.queue.specs.Stages.{expand}
use Rattle.queue.specs.Invariant.{Real, Inv}
use Rattle.queue.proofs.Cases.{clash, by_cond, and_both}
use Rattle.queue.proofs.Ask.{start_keeps}
use Rattle.queue.proofs.Expand.{expand_keeps}
use Rattle.interleaving.specs.Bounds.{Bounds}
use Rattle.interleaving.proofs.Decode.{decoded, decoded_zero}
use Rattle.interleaving.proofs.View.{view_of, call_by, call_of, guests_of, clears_of, agree, set_blind}
use Rattle.interleaving.proofs.HistoryLaws.{InOrder, order_quiet, answer_taken, answer_given}
use Rattle.interleaving.proofs.Good.{Good, Kept}
use Rattle.interleaving.proofs.Carried.{answer_bounds}
use Rattle.interleaving.proofs.Replies.{done}

-- no call is under way
pub free_idle : (n : ℕ) (c : calls.Call) → is_free c.owner ≡ true → call_of n c ≡ idle
unfolding is_free
free_idle n c e = go c.owner c.stage e
  where
    go : (o : Owner) (s : Stage) → is_free o ≡ true → call_by n o s c.port.0 c.queue.0 c.word c.tries ≡ idle
    go owner.None stage.First e = refl
    go owner.None stage.R2 e = refl
    go owner.None stage.R3 e = refl
    go owner.None stage.R4 e = refl
    go owner.None stage.SetBusy e = refl
    go owner.None stage.ClearBusy e = refl
    go owner.None stage.R5 e = refl
    go owner.None stage.R6 e = refl
    go owner.Bind s e = clash e refl
    go owner.Close s e = clash e refl
    go owner.Raise s e = clash e refl
    go owner.Unmask s e = clash e refl

-- ---- the refusals give no answer 2, and an accepted call has what its row asks for
abbrev pub Fine : Answer → Type 0
Fine a = (code_of a).number ≢ 2

abbrev InitFacts : Result Unit Answer → Type 0
InitFacts (Err a) = Fine a
InitFacts (Ok tt) = Unit {0}

init_facts : (o : Owner) (given : Bool) (vcpu frame frames offset : ℕ) → InitFacts (accept_init o given vcpu frame frames offset)
unfolding accept_init code_of
init_facts o given vcpu frame frames offset = by_cond InitFacts (not (is_free o)) _ _ (λ e d. omega arith) (λ e. by_cond InitFacts (not (eqb vcpu 0)) _ _ (λ e d. omega arith)
    (λ e. by_cond InitFacts given _ _ (λ e d. omega arith) (λ e. by_cond InitFacts (leb frames frame) _ _ (λ e d. omega arith) (λ e. by_cond InitFacts (not (hypervisor.is_offset offset)) _ _ (λ e d. omega arith) (λ e. tt)))))

record Expands (n pages : ℕ) (o : Owner) : Type 0 where
  free : is_free o ≡ true
  few : pages < page_limit n

module _ (n pages : ℕ) (o : Owner) where
  abbrev ExpandFacts : Result Unit Answer → Type 0
  ExpandFacts (Err a) = Fine a
  ExpandFacts (Ok tt) = Expands n pages o

  expand_facts : (given : Bool) (frame frames : ℕ) → ExpandFacts (accept_expand n o given pages frame frames)
  unfolding accept_expand code_of
  expand_facts given frame frames = by_cond ExpandFacts (not (is_free o)) _ _ (λ e d. omega arith) (λ free. by_cond ExpandFacts (not given) _ _ (λ e d. omega arith)
      (λ e. by_cond ExpandFacts (leb (page_limit n) pages) _ _ (λ e d. omega arith) (λ few. by_cond ExpandFacts (leb frames frame) _ _ (λ e d. omega arith)
      (λ e. record { free = not-false (is_free o) free; few = leb-false (page_limit n) pages few }))))

pub record WithEntry (ledger : List ℕ) (o : Owner) (p e : ℕ) : Type 0 where
  pub free : is_free o ≡ true
  pub some : p ≢ 0
  pub entry : p < length ledger
  pub same : e ≡ get_or ledger p 0

-- a call begun on p by owner `starts`
pub record Begun (pages : ℕ) (ledger : List ℕ) (o starts : Owner) (p : Port) (c : calls.Call) : Type 0 where
  pub free : is_free o ≡ true
  pub real : Real (1024 * pages) p.0
  pub entry : p.0 < length ledger
  pub call : c ≡ call_at starts stage.First p (queue_at 0) 1

-- an entry changed at once
pub record Settled (ledger : List ℕ) (p e : ℕ) : Type 0 where
  pub last : last_queue e ≡ last_queue (get_or ledger p 0)
  pub ever : ever_linked e ≡ ever_linked (get_or ledger p 0)

module _ (n pages : ℕ) (ledger : List ℕ) (o starts : Owner) (p : Port) where
  abbrev pub PortFacts : Result ℕ Answer → Type 0
  PortFacts (Err a) = Fine a
  PortFacts (Ok e) = WithEntry ledger o p.0 e

  abbrev pub BeginFacts : Result Beginning Answer → Type 0
  BeginFacts (Err a) = Fine a
  BeginFacts (Ok (begin.UnderWay c)) = Begun pages ledger o starts p c
  BeginFacts (Ok (begin.Settled e)) = Settled ledger p.0 e

  pub port_facts : (given : Bool) → PortFacts (accept_port n o given p (entry_at ledger p.0))
  unfolding accept_port entry_at is_port code_of
  port_facts given = by_cond PortFacts (not (is_free o)) _ _ (λ e d. omega arith) (λ free. by_cond PortFacts (not given) _ _ (λ e d. omega arith)
      (λ e. by_cond PortFacts (not (not (eqb p.0 0) && ltb p.0 (2 ^ n))) _ _ (λ e d. omega arith)
      (λ port. by_cond (λ l. PortFacts (entry_or14 l)) (ltb p.0 (length ledger)) (Some (get_or ledger p.0 0)) None
      (λ here. record {
        free = not-false (is_free o) free;
        some = eqb-false p.0 0 (not-true (eqb p.0 0) (and_both (not (eqb p.0 0)) _ (not-false _ port)).0);
        entry = ltb-true p.0 (length ledger) here;
        same = refl;
      })
      (λ e d. omega arith))))

  begun : (e : ℕ) → WithEntry ledger o p.0 e → in_array pages p.0 ≡ true → BeginFacts (Ok (first_access starts p))
  unfolding in_array
  begun e f i = record { free = f.free; real = record { some = f.some; inside = let a : p.0 / 1024 < pages = ltb-true (p.0 / 1024) pages i in omega arith }; entry = f.entry; call = refl }

module _ (n pages : ℕ) (ledger : List ℕ) (o : Owner) (p : Port) where
  pub bind_facts : (x : Result ℕ Answer) → PortFacts n pages ledger o owner.Bind p x → BeginFacts n pages ledger o owner.Bind p (bind_entry pages p x)
  unfolding code_of
  bind_facts (Err a) f = f
  bind_facts (Ok e) f = by_cond (BeginFacts n pages ledger o owner.Bind p) (bound e) _ _ (λ e d. omega arith)
      (λ b. by_cond (BeginFacts n pages ledger o owner.Bind p) (in_array pages p.0) _ _ (begun n pages ledger o owner.Bind p e f)
      (λ i. record { last = last_queue-bound_entry e ∙ ap last_queue f.same; ever = ever_linked-bound_entry e ∙ ap ever_linked f.same }))

  pub close_facts : (x : Result ℕ Answer) → PortFacts n pages ledger o owner.Close p x → BeginFacts n pages ledger o owner.Close p (close_entry pages p x)
  unfolding code_of
  close_facts (Err a) f = f
  close_facts (Ok e) f = by_cond (BeginFacts n pages ledger o owner.Close p) (not (bound e)) _ _ (λ e d. omega arith)
      (λ b. by_cond (BeginFacts n pages ledger o owner.Close p) (in_array pages p.0) _ _ (begun n pages ledger o owner.Close p e f)
      (λ i. record { last = last_queue-closed_entry e ∙ ap last_queue f.same; ever = ever_linked-closed_entry e ∙ ap ever_linked f.same }))

  pub priority_facts : (r : Priority) (starts : Owner) (x : Result ℕ Answer) → PortFacts n pages ledger o starts p x → BeginFacts n pages ledger o starts p (priority_entry r x)
  unfolding code_of
  priority_facts r starts (Err a) f = f
  priority_facts r starts (Ok e) f = by_cond (BeginFacts n pages ledger o starts p) (ltb 15 r.0) _ _ (λ e d. omega arith)
      (λ b. record { last = last_queue-with_priority e r.0 ∙ ap last_queue f.same; ever = ever_linked-with_priority e r.0 ∙ ap ever_linked f.same })

  pub link_facts : (starts : Owner) (x : Result ℕ Answer) → PortFacts n pages ledger o starts p x → BeginFacts n pages ledger o starts p (link_entry starts pages p x)
  unfolding code_of
  link_facts starts (Err a) f = f
  link_facts starts (Ok e) f = by_cond (BeginFacts n pages ledger o starts p) (not (bound e)) _ _ (λ e d. omega arith)
      (λ b. by_cond (BeginFacts n pages ledger o starts p) (not (in_array pages p.0)) _ _ (λ e d. omega arith) (λ i. begun n pages ledger o starts p e f (not-false (in_array pages p.0) i)))

-- ---- what the starts keep
module _ {n : ℕ} (w : World) (h : List Event) (k : Good n w h) where
  order_start : (x : Next) → InOrder (h ++ list_of (hypervisor_answer x)) k.lists
  order_start x = order_quiet h (list_of (hypervisor_answer x)) k.lists k.order (λ q. answer_taken q x) (λ q. answer_given q x)

  bounds_start : (a : Answer) → Fine a → Bounds (list_of (hypervisor_answer (next.Answer a 0)))
  bounds_start a f = (record { link_not_abandoned = f; accesses = zero-le }, tt)

  pub refused_kept : (a : Answer) → Fine a → Kept n (start_step w (started (answered w.domain a) w.ledger w.memory.words)) h
  refused_kept a f = record {
    good = record { lists = k.lists; inv = k.inv; sizes = k.sizes; fit = k.fit; count = k.count; guest_queue = k.guest_queue; clear_word = k.clear_word; order = order_start (next.Answer a 0) };
    bounds = bounds_start a f;
  }

  init_kept : (x : Result Unit Answer) → InitFacts x → Kept n (start_step w (started (init_control_of n w.domain x) w.ledger w.memory.words)) h
  unfolding code_of
  init_kept (Err a) f = refused_kept a f
  init_kept (Ok tt) f = record {
    good = record { lists = k.lists; inv = k.inv; sizes = k.sizes; fit = k.fit; count = k.count; guest_queue = k.guest_queue; clear_word = k.clear_word; order = order_start (next.Answer (LinkBits n) 0) };
    bounds = bounds_start (LinkBits n) (λ d. omega arith);
  }

  -- the added page's words are zero
  in_page : (pages x : ℕ) → eqb (x / 1024) pages ≡ leb (1024 * pages) x && ltb x (1024 * (pages + 1))
  in_page pages x = go (leb (1024 * pages) x) (ltb x (1024 * (pages + 1))) refl refl
    where
      go : (a b : Bool) → leb (1024 * pages) x ≡ a → ltb x (1024 * (pages + 1)) ≡ b → eqb (x / 1024) pages ≡ a && b
      go true true e d = let s = leb-true (1024 * pages) x e in let t = ltb-true x (1024 * (pages + 1)) d in eq-eqb (x / 1024) pages (omega arith)
      go true false e d = let t = ltb-false x (1024 * (pages + 1)) d in ne_eqb (x / 1024) pages (λ z. omega arith)
      go false b e d = let s = leb-false (1024 * pages) x e in ne_eqb (x / 1024) pages (λ z. omega arith)

  expand_kept : Width n → (x : Result Unit Answer) → ExpandFacts n w.domain.pages w.domain.call.owner x
      → Kept n (start_step w (started (expand_array_of w.domain x) w.ledger (page_added w.domain (expand_array_of w.domain x) w.memory.words))) h
  unfolding one_more
  expand_kept wide (Err a) f = rw (le-ltb w.domain.pages w.domain.pages (omega arith)) (refused_kept a f)
  expand_kept wide (Ok tt) f = rw (lt-ltb pages 0xFFFFFFFF (omega (arith, few))) (rw (lt-ltb pages (pages + 1) (omega arith)) (record {
    good = record {
      lists = k.lists;
      inv = subst (λ v. Inv v (call_of n w.domain.call) (guests_of w) (clears_of n w) k.lists) (sym view)
          (rw (free_idle n w.domain.call f.free) (expand_keeps (1024 * (pages + 1)) (omega arith) (rw (free_idle n w.domain.call f.free) at k.inv)));
      sizes = record { array = fits; lent = rw (page_length pages w.memory.words) k.sizes.lent; small = small; block = k.sizes.block; tails = k.sizes.tails; heads = k.sizes.heads };
      fit = k.fit;
      count = k.count;
      guest_queue = k.guest_queue;
      clear_word = k.clear_word;
      order = order_start (next.Answer Done 0);
    };
    bounds = bounds_start Done done;
  }))
    where
      pages : ℕ
      pages = w.domain.pages

      fits : 1024 * (pages + 1) ≤ 2 ^ n
      fits = let a : pages < 2 ^ n / 1024 = f.few in omega arith

      few : pages < 1024
      few = let a = fits in let b : 2 ^ n ≤ 2 ^ 20 = pow_mono wide.most in omega arith

      view : view_of n (record { domain = record { given = w.domain.given; pages = pages + 1; tails = w.domain.tails; call = w.domain.call }; ledger = w.ledger; guest = w.guest; memory = memory (zero_page pages w.memory.words) w.memory.block }) ≡ expand (1024 * (pages + 1)) (view_of n w)
      view = agree (record {
        word = λ x. ap (decoded n) (page_at pages x w.memory.words) ∙ zeroed (eqb (x / 1024) pages) x ∙ ap (λ b. cond b zero_word (decoded n (get_or w.memory.words x 0))) (in_page pages x);
        size = refl;
        tail = λ q. refl;
        last_queue = λ x. refl;
        ever_linked = λ x. refl;
        head = λ q. refl;
        ready = λ q. refl;
        guest_head = λ q. refl;
        local = λ q. refl;
        owner = λ q. refl;
      })
        where
          zeroed : (b : Bool) (x : ℕ) → decoded n (cond b 0 (get_or w.memory.words x 0)) ≡ cond b zero_word (decoded n (get_or w.memory.words x 0))
          zeroed true x = decoded_zero wide
          zeroed false x = refl

      small : (x : ℕ) → x < 1024 * (pages + 1) → get_or (zero_page pages w.memory.words) x 0 < 2 ^ 32
      small x lt = rw (page_at pages x w.memory.words) (by_cond (λ z. z < 2 ^ 32) (eqb (x / 1024) pages) 0 (get_or w.memory.words x 0) (λ e. lit≤ tt)
          (λ e. k.sizes.small x (let d = eqb-false (x / 1024) pages e in omega arith)))

  started_kept : (starts : Owner) (kind : Kind) (p : Port) → call_of n (call_at starts stage.First p (queue_at 0) 1) ≡ asks kind p.0
      → (b : Result Beginning Answer) → BeginFacts n w.domain.pages w.ledger w.domain.call.owner starts p b → Kept n (start_step w (turned (hypervisor.started n w.domain w.ledger p b) w.memory.words)) h
  unfolding hypervisor.started
  started_kept starts kind p e (Err a) f = refused_kept a f
  started_kept starts kind p e (Ok (begin.UnderWay c)) f = rw f.call (record {
    good = record {
      lists = k.lists;
      inv = rw e (start_keeps kind p.0 f.real (rw (free_idle n w.domain.call f.free) at k.inv));
      sizes = k.sizes;
      fit = record { entry = λ d. f.entry; queue = lit≤ tt; word = lit≤ tt; unlinked = λ d. has_zero Linked; linking = λ d. refl };
      count = omega arith;
      guest_queue = k.guest_queue;
      clear_word = k.clear_word;
      order = order_start (next_of n (with_call w.domain (call_at starts stage.First p (queue_at 0) 1)) Done 0);
    };
    bounds = answer_bounds n _ Done 0 (record { link_not_abandoned = done; accesses = zero-le });
  })
  started_kept starts kind p e (Ok (begin.Settled x)) f = record {
    good = record {
      lists = k.lists;
      inv = subst (λ v. Inv v (call_of n w.domain.call) (guests_of w) (clears_of n w) k.lists) (sym (agree (record {
        word = λ x. refl;
        size = refl;
        tail = λ q. refl;
        last_queue = set_blind last_queue w.ledger p.0 x f.last;
        ever_linked = set_blind ever_linked w.ledger p.0 x f.ever;
        head = λ q. refl;
        ready = λ q. refl;
        guest_head = λ q. refl;
        local = λ q. refl;
        owner = λ q. refl;
      }))) k.inv;
      sizes = k.sizes;
      fit = rw (length-set w.ledger p.0 x) k.fit;
      count = k.count;
      guest_queue = k.guest_queue;
      clear_word = k.clear_word;
      order = order_start (next.Answer Done 0);
    };
    bounds = bounds_start Done done;
  }

  abbrev accepted : Port → Result ℕ Answer
  accepted p = accept_port n w.domain.call.owner w.domain.given p (entry_at w.ledger p.0)

  pub start_kept : Width n → (s : Start) → Kept n (start_step w (start_of n w.domain w.ledger w.memory.words s)) h
  unfolding start_of init_control expand_of expand_array bind_start close_start set_priority raise_start unmask_start begin_bind begin_close begin_priority begin_link
  start_kept wide (InitControl vcpu frame frames offset) = init_kept (accept_init w.domain.call.owner w.domain.given vcpu frame frames offset) (init_facts w.domain.call.owner w.domain.given vcpu frame frames offset)
  start_kept wide (ExpandArray frame frames) = expand_kept wide (accept_expand n w.domain.call.owner w.domain.given w.domain.pages frame frames) (expand_facts n w.domain.pages w.domain.call.owner w.domain.given frame frames)
  start_kept wide (Bind p) = started_kept owner.Bind at_bind p refl _ (bind_facts n w.domain.pages w.ledger w.domain.call.owner p (accepted p) (port_facts n w.domain.pages w.ledger w.domain.call.owner owner.Bind p w.domain.given))
  start_kept wide (Close p) = started_kept owner.Close at_close p refl _ (close_facts n w.domain.pages w.ledger w.domain.call.owner p (accepted p) (port_facts n w.domain.pages w.ledger w.domain.call.owner owner.Close p w.domain.given))
  start_kept wide (SetPriority p r) = started_kept owner.Bind at_bind p refl _ (priority_facts n w.domain.pages w.ledger w.domain.call.owner p r owner.Bind (accepted p) (port_facts n w.domain.pages w.ledger w.domain.call.owner owner.Bind p w.domain.given))
  start_kept wide (Raise p) = started_kept owner.Raise at_r1 p refl _ (link_facts n w.domain.pages w.ledger w.domain.call.owner p owner.Raise (accepted p) (port_facts n w.domain.pages w.ledger w.domain.call.owner owner.Raise p w.domain.given))
  start_kept wide (Unmask p) = started_kept owner.Unmask at_u1 p refl _ (link_facts n w.domain.pages w.ledger w.domain.call.owner p owner.Unmask (accepted p) (port_facts n w.domain.pages w.ledger w.domain.call.owner owner.Unmask p w.domain.given))
