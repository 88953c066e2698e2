-- No call or reply meets a tail outside: read off the tails of every record. Such a tail counts whether or not one outside would.
-- Assumes nothing.
use Prim.Native.Nat.{ℕ, ◌*◌, ◌/◌, ◌<◌}
use mathlib.Core.Path.{◌≡◌, refl, sym}
use mathlib.Core.Bool.{cond}
use mathlib.Core.Logic.{inl, inr}
use native.Mathlib.Omega.{arith}
use borrow.Author.Tests.{lt-ltb}
use Rattle.word.specs.Entry.{priority, last_queue}
use Rattle.calls.specs.Records.{in_array}
use Rattle.calls.specs.Hypervisor.{view_of}
use Rattle.calls.proofs.Cases.{choose}
use Rattle.machine.specs.Computes.{runs}
use Rattle.claims.specs.Tails.{TailInside, NoTailOutside, RuleMadeNoDifference, TailExamples, OutsideRefused}
use Rattle.claims.proofs.HypervisorReach.{tails_stay_inside}

pub no_tail_outside : NoTailOutside
unfolding view_of
no_tail_outside n acts e = let t = (tails_stay_inside n acts).tails in record { tail = t (priority e); former = t (last_queue e); linking = t _ }

counts : (pages t : ℕ) → TailInside (1024 * pages) t → cond (in_array pages t) t 0 ≡ t
unfolding in_array
counts pages t (inl e) = choose (λ x. x ≡ t) (in_array pages t) refl (sym e)
counts pages t (inr i) = let l : t < 1024 * pages = i.below in rw (lt-ltb (t / 1024) pages (omega arith))

pub rule_made_no_difference : RuleMadeNoDifference
rule_made_no_difference n acts e = let t = no_tail_outside n acts e in rw (counts _ _ t.tail, counts _ _ t.former) refl

pub tail_examples : TailExamples
unfolding runs
tail_examples = record {
  tail = refl;
  former = refl;
  inside = refl;
  outside = refl;
  outside_last = refl;
  none = refl;
  reads_inside = refl;
  reads_outside = refl;
  forgets_inside = refl;
  forgets_outside = refl;
  keeps = refl;
}

at_end : TailInside 1024 1024 → ⊥
at_end (inl e) = omega (arith, e)
at_end (inr i) = let l : 1024 < 1024 = i.below in omega arith

pub tail_outside_refused : OutsideRefused
unfolding runs
tail_outside_refused = record { any = λ i. at_end (i.tails 7); tail = λ i. at_end i.tail; former = λ i. at_end i.former; linking = λ i. at_end i.linking }
