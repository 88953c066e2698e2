-- An access of the hypervisor's call with its reply, where the call is under way and its port has an entry: what keeps
-- the invariant, whatever the stage.
-- Assumes nothing.
use mathlib.Core.Path.{◌≡◌, refl, sym, ap, ◌∙◌, subst}
use mathlib.Core.Logic.{◌≢◌}
use mathlib.Core.Bool.{Bool, true, false}
use mathlib.Core.List.{List, [], ◌∷◌, ◌++◌}
use Prim.Native.Nat.{ℕ, suc, ◌+◌, ◌*◌, ◌^◌, ◌≤◌, ◌<◌}
use native.Mathlib.Omega.{arith}
use lib.ListN.{length, get_or, set, length-set}
use lib.Seq.{set_out, set-get_or, get_or-set_same, get_or-set_other}
use borrow.Author.Tests.{lt-ltb}
use Rattle.word.specs.Ready.{is_ready}
use Rattle.word.specs.Entry.{last_queue, ever_linked}
use Rattle.calls.specs.declared.types.Access.{Access}
use Rattle.calls.specs.declared.types.Answer.{Answer}
use Rattle.calls.specs.declared.types.Next.TheVariants as next
use Rattle.calls.specs.declared.types.Owner.{Owner}
use Rattle.calls.specs.declared.types.Stage.{Stage}
use Rattle.calls.specs.declared.types.Stage.TheVariants as stage
use Rattle.calls.specs.declared.types.Call as calls
use Rattle.calls.specs.declared.types.Domain.{Domain}
use Rattle.calls.specs.declared.hypervisor.stage.Move.{Move}
use Rattle.calls.specs.Answers.{code_of}
use Rattle.calls.specs.Records.{is_free, entry_at}
use Rattle.calls.specs.Hypervisor.{staged, due, next_of, moved, carried_out, reply_of}
use Rattle.calls.specs.Hypervisor as hypervisor
use Rattle.machine.specs.Memory.{Memory, memory, performed}
use Rattle.machine.specs.Exec.{World, Advanced, hypervisor_step, hypervisor_replied, hypervisor_answer, list_of, perform_side, perform_hypervisor}
use Rattle.machine.specs.declared.types.Side.TheVariants as side
use Rattle.machine.specs.declared.types.Event.{Event}
use Rattle.machine.specs.declared.types.Event.TheVariants.{HypervisorAccess}
use Rattle.queue.specs.Model.{Word, Call, with_words}
use Rattle.queue.specs.Update.{update}
use Rattle.queue.specs.Stages.{After, put}
use Rattle.queue.specs.Budget.{most_tries, made_by}
use Rattle.queue.specs.Invariant.{Inv, Keeps}
use Rattle.queue.proofs.Cases.{clash, by_cond, split}
use Rattle.interleaving.specs.Bounds.{Bounds, AccessBounds, AnswerBounds}
use Rattle.interleaving.proofs.Decode.{decoded}
use Rattle.interleaving.proofs.View.{view_by, view_of, call_of, guest_call_of, guests_of, clears_of, agree, set_update, set_blind}
use Rattle.interleaving.specs.Histories.{taken_in}
use Rattle.interleaving.proofs.HistoryLaws.{InOrder, order_quiet, order_answer}
use Rattle.interleaving.proofs.Good.{Sizes, Fit, Core, Kept}

-- w, with the hypervisor's call at a stage
abbrev pub at_stage : World → Owner → Stage → World
at_stage w o s = record {
  domain = record { given = w.domain.given; pages = w.domain.pages; tails = w.domain.tails; call = record { owner = o; stage = s; port = w.domain.call.port; queue = w.domain.call.queue; word = w.domain.call.word; tries = w.domain.call.tries; count = w.domain.call.count } };
  ledger = w.ledger;
  guest = w.guest;
  memory = w.memory;
}

-- port and queue of the hypervisor's call, its queue's tail, and the port's ledger entry
abbrev pub port_of : World → ℕ
port_of w = w.domain.call.port.0

abbrev pub queue_of : World → ℕ
queue_of w = w.domain.call.queue.0

abbrev pub tail_of : World → ℕ
tail_of w = get_or w.domain.tails (queue_of w) 0

abbrev pub entry_of : World → ℕ
entry_of w = get_or w.ledger (port_of w) 0

-- an access that sees `seen` and leaves memory m, and the reply's move
abbrev pub carried : ℕ → World → Access → ℕ → Memory → Move → Advanced
carried n w a seen m mv = hypervisor_step w (hypervisor_replied (carried_out n w.domain w.ledger mv) (HypervisorAccess w.domain.call a seen) m)

abbrev pub due_access : ℕ → World → Access
due_access n w = due n w.domain.call (tail_of w)

pub perform_carried : (n : ℕ) (w : World) → is_free w.domain.call.owner ≡ false → port_of w < length w.ledger
    → perform_side n w side.Hypervisor ≡ carried n w (due_access n w) (performed w.memory (due_access n w)).seen (performed w.memory (due_access n w)).memory
    (staged w.domain.call (entry_of w) (hypervisor.view_of w.domain (entry_of w)) (performed w.memory (due_access n w)).seen)
unfolding perform_side perform_hypervisor next_of reply_of entry_at
perform_carried n w e h = simp (e, lt-ltb (port_of w) (length w.ledger) h)

-- what a reply makes of the call
pub record Moves (n entries : ℕ) (c : calls.Call) (to : Call) (mv : Move) : Type 0 where
  pub call : call_of n mv.call ≡ to
  pub fit : Fit entries mv.call
  pub more : mv.call.count ≤ suc c.count
  pub answer : (code_of mv.answer).number ≢ 2
  pub count : mv.count ≤ c.count

-- no tail changes, and the entry says the same of where the port stood
pub record Quiet (e : ℕ) (mv : Move) : Type 0 where
  pub queue : mv.queue.0 ≡ 16
  pub last_queue : last_queue mv.entry ≡ last_queue e
  pub ever_linked : ever_linked mv.entry ≡ ever_linked e

pub record QuietMoves (n entries e : ℕ) (c : calls.Call) (to : Call) (mv : Move) : Type 0 where
  pub moves : Moves n entries c to mv
  pub quiet : Quiet e mv

pub answer_bounds : (n : ℕ) (d : Domain) (a : Answer) (count : ℕ) → AnswerBounds a count → Bounds (list_of (hypervisor_answer (next_of n d a count)))
unfolding next_of
answer_bounds n d a count b = by_cond (λ x. Bounds (list_of (hypervisor_answer x))) (is_free d.call.owner) (next.Answer a count) (next.Access (due n d.call (get_or d.tails d.call.queue.0 0)))
    (λ e. (b, tt)) (λ e. tt)

module _ {n : ℕ} (w : World) (h : List Event) {c : Call} (k : Core n w c (guest_call_of w.guest.call) h) (acc : Access) (seen : ℕ) (m : Memory) (mv : Move) where
  pub kept : (a : After Call) → Keeps a (guests_of w) (clears_of n w)
      → view_by n w.domain.pages m.words m.block (set w.domain.tails mv.queue.0 mv.tail) (set w.ledger (port_of w) mv.entry) w.guest.heads w.guest.ready ≡ a.view
      → Moves n (length w.ledger) w.domain.call a.call mv
      → Sizes n w.domain.pages m.words m.block w.domain.tails w.guest.heads
      → made_by c < made_by a.call → made_by c < 7 + most_tries
      → InOrder (h ++ HypervisorAccess w.domain.call acc seen ∷ []) a.lists
      → (w.domain.call.count ≤ 7 + most_tries → AccessBounds w.domain.call seen)
      → Kept n (carried n w acc seen m mv) h
  unfolding moved
  kept a inv view moves sizes less few order bounds = record {
    good = record {
      lists = a.lists;
      inv = subst (λ v. Inv v (call_of n mv.call) (guests_of w) (clears_of n w) a.lists) (sym view) (rw moves.call inv);
      sizes = record { array = sizes.array; lent = sizes.lent; small = sizes.small; block = sizes.block; tails = simp length-set sizes.tails; heads = sizes.heads };
      fit = rw (length-set w.ledger (port_of w) mv.entry) moves.fit;
      count = rw moves.call (let a = k.count in let b = moves.more in omega arith);
      guest_queue = k.guest_queue;
      clear_word = k.clear_word;
      order = order_answer h (HypervisorAccess w.domain.call acc seen ∷ []) a.lists order (next_of n (moved w.domain mv) mv.answer mv.count);
    };
    bounds = (bounds (let a = k.count in omega arith), answer_bounds n _ mv.answer mv.count (record { link_not_abandoned = moves.answer; accesses = let a = k.count in let b = moves.count in omega arith }));
  }

module _ {n : ℕ} (w : World) (h : List Event) {c : Call} (k : Core n w c (guest_call_of w.guest.call) h) (m : Memory) (mv : Move) where
  -- the view where no tail changes, the words are f, and HEADs and READY are as before
  pub quiet_view : (f : ℕ → Word) → ((x : ℕ) → decoded n (get_or m.words x 0) ≡ f x) → m.block ≡ w.memory.block → Quiet (entry_of w) mv
      → view_by n w.domain.pages m.words m.block (set w.domain.tails mv.queue.0 mv.tail) (set w.ledger (port_of w) mv.entry) w.guest.heads w.guest.ready ≡ with_words f (view_of n w)
  quiet_view f e b q = agree (record {
    word = e;
    size = refl;
    tail = λ r. ap (λ l. get_or l r 0) (set_out w.domain.tails mv.queue.0 mv.tail (omega (arith, k.sizes.tails, q.queue)));
    last_queue = set_blind last_queue w.ledger (port_of w) mv.entry q.last_queue;
    ever_linked = set_blind ever_linked w.ledger (port_of w) mv.entry q.ever_linked;
    head = λ r. rw b;
    ready = λ r. rw b;
    guest_head = λ r. refl;
    local = λ r. refl;
    owner = λ r. refl;
  })

-- one word is written
pub sizes_word : {n pages : ℕ} {words block tails heads : List ℕ} → Sizes n pages words block tails heads → (p x : ℕ) → x < 2 ^ 32 → Sizes n pages (set words p x) block tails heads
sizes_word {n} {pages} {words} s p x h = record {
  array = s.array;
  lent = simp length-set s.lent;
  small = λ r lt. split r p
      (λ e. rw (e, get_or-set_same words p x 0 (let a = s.array in let b = s.lent in omega arith)) h)
      (λ d. rw (get_or-set_other words p r x 0 d) (s.small r lt));
  block = s.block;
  tails = s.tails;
  heads = s.heads;
}

-- a word of the control block is written
pub sizes_block : {n pages : ℕ} {words block tails heads : List ℕ} → Sizes n pages words block tails heads → (i x : ℕ) → Sizes n pages words (set block i x) tails heads
sizes_block s i x = record { array = s.array; lent = s.lent; small = s.small; block = simp length-set s.block; tails = s.tails; heads = s.heads }

pub in_words : {n pages : ℕ} {words block tails heads : List ℕ} → Sizes n pages words block tails heads → (p : ℕ) → p < 1024 * pages → p < length words
in_words s p h = let a = s.array in let b = s.lent in omega arith

-- every stage but R4 and R6
abbrev is_bounded : Stage → Bool
is_bounded stage.First = false
is_bounded stage.R2 = false
is_bounded stage.R3 = false
is_bounded stage.R4 = true
is_bounded stage.SetBusy = false
is_bounded stage.ClearBusy = false
is_bounded stage.R5 = false
is_bounded stage.R6 = true

pub no_bounds : (c : calls.Call) (seen : ℕ) → is_bounded c.stage ≡ false → c.count ≤ 7 + most_tries → AccessBounds c seen
no_bounds c seen e l = record { accesses = l; few_tries = λ d. clash (ap is_bounded d) e; bit_clear = λ d. clash (ap is_bounded d) e }

abbrev is_r6 : Stage → Bool
is_r6 stage.First = false
is_r6 stage.R2 = false
is_r6 stage.R3 = false
is_r6 stage.R4 = false
is_r6 stage.SetBusy = false
is_r6 stage.ClearBusy = false
is_r6 stage.R5 = false
is_r6 stage.R6 = true

pub tries_bound : (c : calls.Call) (seen : ℕ) → c.stage ≡ stage.R4 → c.tries ≤ most_tries → c.count ≤ 7 + most_tries → AccessBounds c seen
tries_bound c seen e h l = record { accesses = l; few_tries = λ d. h; bit_clear = λ d. clash (ap is_r6 d) (ap is_r6 e) }

pub bit_bound : (c : calls.Call) (seen : ℕ) → c.stage ≡ stage.R6 → is_ready c.queue.0 seen ≡ false → c.count ≤ 7 + most_tries → AccessBounds c seen
bit_bound c seen e h l = record { accesses = l; few_tries = λ d. clash (ap is_r6 e) (ap is_r6 d); bit_clear = λ d. h }

module _ {n : ℕ} (w : World) (h : List Event) {c : Call} (k : Core n w c (guest_call_of w.guest.call) h) (acc : Access) (seen p x : ℕ) (mv : Move) (to : Call)
    (reply : QuietMoves n (length w.ledger) (entry_of w) w.domain.call to mv) (less : made_by c < made_by to) (few : made_by c < 7 + most_tries)
    (quietly : (q : ℕ) → taken_in q (HypervisorAccess w.domain.call acc seen ∷ []) ≡ []) (bounds : w.domain.call.count ≤ 7 + most_tries → AccessBounds w.domain.call seen) where
  -- word p is written
  pub put_kept : (y : Word) → p < 1024 * w.domain.pages → x < 2 ^ 32 → decoded n x ≡ y → Inv (put (view_of n w) p y) to (guests_of w) (clears_of n w) k.lists
      → Kept n (carried n w acc seen (memory (set w.memory.words p x) w.memory.block) mv) h
  put_kept y lt small e i =
      kept w h k acc seen (memory (set w.memory.words p x) w.memory.block) mv (record { view = put (view_of n w) p y; call = to; lists = k.lists }) i
      (quiet_view w h k (memory (set w.memory.words p x) w.memory.block) mv (update (λ r. decoded n (get_or w.memory.words r 0)) p y)
      (set_update (decoded n) w.memory.words p x y (in_words k.sizes p lt) e) refl reply.quiet)
      reply.moves (sizes_word k.sizes p x small) less few (order_quiet h _ k.lists k.order quietly (λ q. refl)) bounds

  -- word p is read
  pub read_kept : x ≡ get_or w.memory.words p 0 → Inv (view_of n w) to (guests_of w) (clears_of n w) k.lists
      → Kept n (carried n w acc seen (memory (set w.memory.words p x) w.memory.block) mv) h
  read_kept e i =
      let same : set w.memory.words p x ≡ w.memory.words = ap (set w.memory.words p) e ∙ set-get_or w.memory.words p 0 in
      kept w h k acc seen (memory (set w.memory.words p x) w.memory.block) mv (record { view = view_of n w; call = to; lists = k.lists }) i
      (quiet_view w h k (memory (set w.memory.words p x) w.memory.block) mv (λ r. decoded n (get_or w.memory.words r 0)) (λ r. ap (λ l. decoded n (get_or l r 0)) same) refl reply.quiet)
      reply.moves (subst (λ l. Sizes n w.domain.pages l w.memory.block w.domain.tails w.guest.heads) (sym same) k.sizes) less few (order_quiet h _ k.lists k.order quietly (λ q. refl)) bounds
