-- Replies that end the hypervisor's call, or name its next access.
-- Assumes nothing.
use mathlib.Core.Path.{◌≡◌, refl, ap, ◌∙◌}
use mathlib.Core.Logic.{◌≢◌}
use mathlib.Core.Bool.{true, false}
use Prim.Native.Nat.{ℕ, suc, ◌+◌, ◌^◌, ◌≤◌, ◌<◌, zero-le}
use native.Mathlib.Nat.{le_refl}
use native.Mathlib.Omega.{arith}
use lib.Dec.{ltb, lit≤}
use Rattle.word.specs.declared.Queue.{Queue}
use Rattle.word.specs.declared.Flag.TheVariants.{Linked}
use Rattle.word.specs.Word.{has}
use Rattle.word.specs.Entry.{last_queue, ever_linked}
use Rattle.word.proofs.WordLaws.{has_zero}
use Rattle.calls.specs.declared.types.Answer.{Answer}
use Rattle.calls.specs.declared.types.Answer.TheVariants.{Done}
use Rattle.calls.specs.declared.types.Stage.{Stage}
use Rattle.calls.specs.declared.types.Call as calls
use Rattle.calls.specs.Answers.{code_of}
use Rattle.calls.specs.Records.{is_free, one_more, idle_call}
use Rattle.calls.specs.Hypervisor.{ends, goes_on, named, comparing, clearing}
use Rattle.queue.specs.Model.{Call}
use Rattle.queue.specs.Model.Stage.{at_r4, at_clear_busy}
use Rattle.queue.specs.Model.Call.{idle, holds}
use Rattle.queue.proofs.Cases.{clash, by_cond}
use Rattle.interleaving.specs.Held.{is_linking}
use Rattle.interleaving.proofs.Decode.{decoded}
use Rattle.interleaving.proofs.View.{call_of}
use Rattle.interleaving.proofs.Good.{Fit}
use Rattle.interleaving.proofs.Carried.{QuietMoves}
use Rattle.interleaving.proofs.Linking.{under_way_lem}

pub fit_idle : (entries : ℕ) → Fit entries idle_call
unfolding is_free
fit_idle entries = record { entry = λ e. clash refl e; queue = lit≤ tt; word = lit≤ tt; unlinked = λ e. has_zero Linked; linking = λ e. refl }

pub one_more_le : (k : ℕ) → one_more k ≤ suc k
unfolding one_more
one_more_le k = by_cond (λ x. x ≤ suc k) (ltb k 0xFFFFFFFF) (k + 1) k (λ e. omega arith) (λ e. omega arith)

pub fit_named : (entries : ℕ) (c : calls.Call) (s : Stage) (q : Queue) → c.port.0 < entries → q.0 < 16 → is_linking c.owner ≡ true → Fit entries (named c s q)
fit_named entries c s q h l o = record { entry = λ e. h; queue = l; word = lit≤ tt; unlinked = λ e. has_zero Linked; linking = λ e. clash o e }

pub done : (code_of Done).number ≢ 2
unfolding code_of
done e = omega arith

module _ (n entries e : ℕ) (c : calls.Call) where
  -- e' says the same as e of where the port stood
  pub ends_moves : (e' : ℕ) (a : Answer) → (code_of a).number ≢ 2 → last_queue e' ≡ last_queue e → ever_linked e' ≡ ever_linked e → QuietMoves n entries e c idle (ends e' a c.count)
  ends_moves e' a d l b = record {
    moves = record { call = refl; fit = fit_idle entries; more = zero-le; answer = d; count = le_refl c.count };
    quiet = record { queue = refl; last_queue = l; ever_linked = b };
  }

  pub named_moves : (s : Stage) (q : Queue) → c.port.0 < entries → q.0 < 16 → is_linking c.owner ≡ true → (to : Call) → call_of n (named c s q) ≡ to
      → QuietMoves n entries e c to (goes_on e (named c s q))
  named_moves s q h l o to d = record {
    moves = record { call = d; fit = fit_named entries c s q h l o; more = one_more_le c.count; answer = done; count = zero-le };
    quiet = record { queue = refl; last_queue = refl; ever_linked = refl };
  }

  module _ (x : ℕ) (known : c.port.0 < entries) (queue : c.queue.0 < 16) (small : x < 2 ^ 32) (linking : is_linking c.owner ≡ true) where
    -- a cas is named that compares with x, after i cas not taken
    pub comparing_moves : (i : ℕ) → QuietMoves n entries e c (holds c.queue.0 c.port.0 (at_r4 i (decoded n x))) (goes_on e (comparing c (i + 1) x))
    comparing_moves i = record {
      moves = record {
        call = under_way_lem c.owner _ linking ∙ ap (λ z. holds c.queue.0 c.port.0 (at_r4 z (decoded n x))) (omega arith);
        fit = record { entry = λ d. known; queue = queue; word = small; unlinked = λ d. clash d refl; linking = λ d. clash linking d };
        more = one_more_le c.count;
        answer = done;
        count = zero-le;
      };
      quiet = record { queue = refl; last_queue = refl; ever_linked = refl };
    }

    -- the and that clears BUSY is named, after a word seen without LINKED
    pub clearing_moves : has Linked x ≡ false → QuietMoves n entries e c (holds c.queue.0 c.port.0 at_clear_busy) (goes_on e (clearing c x))
    clearing_moves d = record {
      moves = record {
        call = under_way_lem c.owner _ linking;
        fit = record { entry = λ z. known; queue = queue; word = small; unlinked = λ z. d; linking = λ z. clash linking z };
        more = one_more_le c.count;
        answer = done;
        count = zero-le;
      };
      quiet = record { queue = refl; last_queue = refl; ever_linked = refl };
    }
