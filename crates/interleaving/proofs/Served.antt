-- An access of a service with its reply: what keeps the invariant, whatever the stage.
-- Assumes nothing.
use mathlib.Core.Path.{◌≡◌, refl, sym, ap, subst}
use mathlib.Core.Logic.{◌≢◌}
use mathlib.Core.Bool.{true, false, not}
use mathlib.Core.List.{List, [], ◌∷◌, ◌++◌}
use Prim.Native.Nat.{ℕ, ◌<◌}
use native.Mathlib.Omega.{arith}
use lib.ListN.{get_or, set, length-set}
use lib.Seq.{set_out}
use Rattle.calls.specs.declared.types.Answer.{Answer}
use Rattle.calls.specs.declared.types.Access.{Access}
use Rattle.calls.specs.declared.types.Next.TheVariants as next
use Rattle.calls.specs.declared.types.Guest.{Guest}
use Rattle.calls.specs.declared.types.GuestStage.{GuestStage}
use Rattle.calls.specs.declared.guest.GuestMove.{GuestMove}
use Rattle.calls.specs.Answers.{code_of}
use Rattle.calls.specs.Records.{is_clearing}
use Rattle.calls.specs.Guest.{is_serving, guest_due, guest_next, guest_moved, guest_carried_out, guest_move, service_reply}
use Rattle.calls.specs.ClearMask.{guest_reply, guest_due_of}
use Rattle.machine.specs.Memory.{Memory, performed}
use Rattle.machine.specs.Exec.{World, Advanced, guest_step, guest_replied, guest_answer, list_of, guest_access, perform_side, perform_guest}
use Rattle.machine.specs.declared.types.Side.TheVariants as side
use Rattle.machine.specs.declared.types.Event.{Event}
use Rattle.machine.specs.declared.types.Event.TheVariants.{GuestAccess}
use Rattle.queue.specs.Model.{Word, GuestCall, alone, with_words}
use Rattle.queue.specs.Stages.{After}
use Rattle.queue.specs.Invariant.{Inv, ServiceKeeps}
use Rattle.queue.proofs.Cases.{by_cond}
use Rattle.queue.proofs.OneVcpu.{alone_update}
use Rattle.interleaving.specs.Bounds.{Bounds}
use Rattle.interleaving.proofs.Decode.{decoded}
use Rattle.interleaving.proofs.View.{view_by, view_of, call_of, guest_call_of, clears_of, agree}
use Rattle.interleaving.proofs.HistoryLaws.{InOrder, order_guest_answer}
use Rattle.interleaving.proofs.Good.{Sizes, Core, Kept}

-- w, with the service at a stage
abbrev pub at_guest_stage : World → GuestStage → World
at_guest_stage w s = record {
  domain = w.domain;
  ledger = w.ledger;
  guest = record { heads = w.guest.heads; ready = w.guest.ready; words = w.guest.words; call = record { stage = s; port = w.guest.call.port; queue = w.guest.call.queue; count = w.guest.call.count }; clear = w.guest.clear };
  memory = w.memory;
}

-- an access that sees `seen` and leaves memory m, and the reply's move; it is made where no clear_mask is under way
abbrev pub served : ℕ → World → Access → ℕ → Memory → GuestMove → Advanced
served n w a seen m mv = guest_step w (guest_replied (guest_carried_out n w.guest mv) (GuestAccess w.guest.call a seen) m)

pub perform_served : (n : ℕ) (w : World) → is_clearing w.guest.clear.stage ≡ false → is_serving w.guest.call.stage ≡ true
    → perform_side n w side.Guest ≡ served n w (guest_due n w.guest.call) (performed w.memory (guest_due n w.guest.call)).seen (performed w.memory (guest_due n w.guest.call)).memory
    (guest_move n w.guest (performed w.memory (guest_due n w.guest.call)).seen)
unfolding perform_side perform_guest guest_access guest_due_of guest_reply guest_next service_reply
perform_served n w none e = simp (none, e)

-- what a reply makes of the service
pub record Moves (to : GuestCall) (mv : GuestMove) : Type 0 where
  pub call : guest_call_of mv.call ≡ to
  pub queue : mv.call.queue.0 < 16
  pub answer : (code_of mv.answer).number ≢ 18

pub answer_bounds : (n : ℕ) (g : Guest) (a : Answer) (count : ℕ) → (code_of a).number ≢ 18 → Bounds (list_of (guest_answer (guest_next n g a count)))
unfolding guest_next
answer_bounds n g a count b = by_cond (λ x. Bounds (list_of (guest_answer x))) (not (is_serving g.call.stage)) (next.Answer a count) (next.Access (guest_due n g.call)) (λ e. (b, tt)) (λ e. tt)

module _ {n : ℕ} (w : World) (h : List Event) {g : GuestCall} (k : Core n w (call_of n w.domain.call) g h) (acc : Access) (seen : ℕ) (m : Memory) (mv : GuestMove) where
  pub kept : (a : After GuestCall) → ServiceKeeps 0 a (call_of n w.domain.call) (alone g) (clears_of n w)
      → view_by n w.domain.pages m.words m.block w.domain.tails w.ledger (set w.guest.heads mv.queue.0 mv.head) mv.ready ≡ a.view
      → Moves a.call mv
      → Sizes n w.domain.pages m.words m.block w.domain.tails w.guest.heads
      → InOrder (h ++ GuestAccess w.guest.call acc seen ∷ []) a.lists
      → Kept n (served n w acc seen m mv) h
  unfolding guest_moved
  kept a inv view moves sizes order = record {
    good = record {
      lists = a.lists;
      inv = subst (λ v. Inv v (call_of n w.domain.call) (alone (guest_call_of mv.call)) (clears_of n w) a.lists) (sym view) (rw moves.call (rw (alone_update g a.call) at inv));
      sizes = record { array = sizes.array; lent = sizes.lent; small = sizes.small; block = sizes.block; tails = sizes.tails; heads = simp length-set sizes.heads };
      fit = k.fit;
      count = k.count;
      guest_queue = moves.queue;
      clear_word = k.clear_word;
      order = order_guest_answer h (GuestAccess w.guest.call acc seen ∷ []) a.lists order (guest_next n (guest_moved w.guest mv) mv.answer mv.count);
    };
    bounds = (tt, answer_bounds n _ mv.answer mv.count moves.answer);
  }

module _ {n : ℕ} (w : World) (h : List Event) {g : GuestCall} (k : Core n w (call_of n w.domain.call) g h) (m : Memory) (mv : GuestMove) where
  -- no H changes
  pub no_head : mv.queue.0 ≡ 16 → (r : ℕ) → get_or (set w.guest.heads mv.queue.0 mv.head) r 0 ≡ get_or w.guest.heads r 0
  no_head e r = ap (λ l. get_or l r 0) (set_out w.guest.heads mv.queue.0 mv.head (omega (arith, k.sizes.heads, e)))

  -- the view where the words are f and all else is as before
  pub quiet_view : (f : ℕ → Word) → ((x : ℕ) → decoded n (get_or m.words x 0) ≡ f x) → m.block ≡ w.memory.block → mv.queue.0 ≡ 16 → mv.ready ≡ w.guest.ready
      → view_by n w.domain.pages m.words m.block w.domain.tails w.ledger (set w.guest.heads mv.queue.0 mv.head) mv.ready ≡ with_words f (view_of n w)
  quiet_view f e b q l = agree (record {
    word = e;
    size = refl;
    tail = λ r. refl;
    last_queue = λ x. refl;
    ever_linked = λ x. refl;
    head = λ r. rw b;
    ready = λ r. rw b;
    guest_head = no_head q;
    local = λ r. rw l;
    owner = λ r. refl;
  })
