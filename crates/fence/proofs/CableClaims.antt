-- What holds of the table after any list of orders. n is the number of link bits.
-- Assumes nothing.
use Prim.Native.Nat.{ℕ, ◌≤◌, ◌<◌}
use mathlib.Core.Path.{◌≡◌, refl, sym, ap, subst, ◌∙◌}
use mathlib.Core.Bool.{true, false}
use mathlib.Core.List.{List}
use mathlib.Core.Logic.{◌⊎◌, inl, inr, ◌≢◌}
use native.Mathlib.Omega.{arith}
use borrow.Author.Tests.{eqb-true, ne_eqb}
use lib.ListN.{length}
use lib.Dec.{eqb}
use Rattle.calls.specs.Records.{is_port}
use Rattle.calls.proofs.Cases.{choose, by_test}
use Rattle.calls.proofs.RecordLaws.{is_port_lem}
use Rattle.queue.proofs.Cases.{clash, either, three}
use Rattle.machine.specs.declared.types.Step.{Step}
use Rattle.machine.specs.Exec.{World}
use Rattle.cables.specs.Table.{Slot, domain_limit, end, domain_of, port_of, slot_of, lowest_with, taken, laid_at, cut_at, Single}
use Rattle.cables.specs.Rules.{port_refusal, table_fallen}
use Rattle.cables.proofs.Tables.{has_holds, has_either, has_one, has_two, has_taken_lem, taken_has, cut_gone, cut_size, table_claims}
use Rattle.fence.specs.System.{System, Cut, Answered, Works, refusal_at, act, falls, after, run}
use Rattle.fence.specs.Cables.{Bound, CableClaims}
use Rattle.fence.proofs.Ends.{domain_of_end, port_of_end, ends_apart, port_small, taken_again, cut_taken, laid_taken}
use Rattle.fence.proofs.Passing.{keeps_passing, passing_port}
use Rattle.fence.proofs.Orders.{Passed, with_cables, Keeps, run_keeps}

-- ---- a close that falls

fallen_gone : (d p : ℕ) (t : List Slot) → p ≢ 0 → taken (table_fallen d p t) (end d p) ≡ false
fallen_gone d p t some = rw (ne_eqb p 0 some) (cut_gone t (end d p))

fallen_taken : (d p : ℕ) (t : List Slot) (e : ℕ) → taken (table_fallen d p t) e ≡ true → (taken t e ≡ true) × ((p ≡ 0) ⊎ (e ≢ end d p))
fallen_taken d p t e =
    by_test (λ x. taken x e ≡ true → (taken t e ≡ true) × ((p ≡ 0) ⊎ (e ≢ end d p))) (eqb p 0) (λ k h. (h, inl (eqb-true p 0 k)))
    (λ k h. let c = cut_taken t (end d p) e h in (c.0, inr c.1))

fallen_size : (d p : ℕ) (t : List Slot) → length (table_fallen d p t) ≡ length t
fallen_size d p t = choose (λ x. length x ≡ length t) (eqb p 0) refl (cut_size t (end d p))

fallen_single : (d p : ℕ) (t : List Slot) → Single t → Single (table_fallen d p t)
fallen_single d p t single = choose Single (eqb p 0) single (table_claims.cut_single t (end d p) single)

-- ---- each end of a cable passes its port's own refusals

abbrev AllPass : ℕ → System → Type 0
AllPass n σ = (e : ℕ) → taken σ.cables e ≡ true → refusal_at n σ (domain_of e) (port_of e) ≡ 0

to_bound : (n : ℕ) (σ : System) → AllPass n σ → Bound n σ
to_bound n σ pass = record {
  one = λ i h. pass (slot_of σ.cables i).one (has_taken_lem σ.cables (slot_of σ.cables i).one i (has_one (slot_of σ.cables i) h));
  two = λ i h. pass (slot_of σ.cables i).two (has_taken_lem σ.cables (slot_of σ.cables i).two i (has_two (slot_of σ.cables i) h));
}

from_bound : (n : ℕ) (σ : System) → Bound n σ → AllPass n σ
from_bound n σ b e h =
    let i = lowest_with σ.cables e in
    let s = slot_of σ.cables i in
    let k = taken_has σ.cables e h in
    either (has_either s e k)
    (λ x. subst (λ (z : ℕ). refusal_at n σ (domain_of z) (port_of z) ≡ 0) x (b.one i (has_holds s e k)))
    (λ x. subst (λ (z : ℕ). refusal_at n σ (domain_of z) (port_of z) ≡ 0) x (b.two i (has_holds s e k)))

module _ (n : ℕ) where
  -- the port of an end that is still there is not the one whose close fell
  not_fallen : (d p : ℕ) (t : List Slot) (e : ℕ) → taken t e ≡ true → domain_of e ≡ d → is_port n (port_of e) ≡ true →
      (p ≡ 0) ⊎ (e ≢ end d p) → port_of e ≢ p
  not_fallen d p t e h f port (inl z) k = omega (arith, is_port_lem n (port_of e) port)
  not_fallen d p t e h f port (inr z) k = z (sym (taken_again t e h) ∙ ap (λ (j : ℕ). end j (port_of e)) f ∙ ap (end d) k)

  works_pass : (σ : System) (d : ℕ) (s : Step) → AllPass n σ → AllPass n (after n σ (Works d s))
  unfolding after
  works_pass σ d s pass e h =
      let w = σ.worlds d in
      let k = fallen_taken d (falls n w s) σ.cables e h in
      by_test (λ (v : World). port_refusal n v.domain v.ledger (port_of e) ≡ 0) (eqb (domain_of e) d)
      (λ f. let now = subst (λ (j : ℕ). refusal_at n σ j (port_of e) ≡ 0) (eqb-true (domain_of e) d f) (pass e k.0) in
      keeps_passing n (port_of e) w s now
      (not_fallen d (falls n w s) σ.cables e k.0 (eqb-true (domain_of e) d f) (passing_port n (port_of e) w now) k.1))
      (λ f. pass e k.0)

  cuts_pass : (σ : System) (x : ℕ) → AllPass n σ → AllPass n (with_cables σ (cut_at σ.cables x))
  cuts_pass σ x pass e h = pass e (cut_taken σ.cables x e h).0

  size_keeps : (k : ℕ) → Keeps n (λ σ. length σ.cables ≡ k)
  unfolding after
  size_keeps k = record {
    works = λ σ d s i. fallen_size d (falls n (σ.worlds d) s) σ.cables ∙ i;
    lays = λ σ d p e q passed i. table_claims.lay_size σ.cables (end d p) (end e q) ∙ i;
    cuts = λ σ x i. cut_size σ.cables x ∙ i;
  }

  module _ (most : n ≤ 20) where
    -- a port that passes its own refusals has room in an end
    small : (σ : System) (d p : ℕ) → refusal_at n σ d p ≡ 0 → p < 0x100000
    small σ d p h = port_small n p most (passing_port n p (σ.worlds d) h)

    end_passes : (σ : System) (d p x : ℕ) → d < domain_limit → refusal_at n σ d p ≡ 0 → end d p ≡ x →
        refusal_at n σ (domain_of x) (port_of x) ≡ 0
    end_passes σ d p x few h k = rw (sym k, domain_of_end d p few (small σ d p h), port_of_end d p few (small σ d p h)) h

    lays_pass : (σ : System) (d p e q : ℕ) → Passed d e (refusal_at n σ d p) (refusal_at n σ e q) σ.cables (end d p) (end e q) →
        AllPass n σ → AllPass n (with_cables σ (laid_at σ.cables (end d p) (end e q)))
    lays_pass σ d p e q k pass x h =
        three (laid_taken σ.cables (end d p) (end e q) x h) (pass x)
        (end_passes σ d p x k.few k.passes) (end_passes σ e q x k.far_few k.far_passes)

    pass_keeps : Keeps n (AllPass n)
    pass_keeps = record { works = works_pass; lays = lays_pass; cuts = cuts_pass }

    single_keeps : Keeps n (λ σ. Single σ.cables)
    unfolding after
    single_keeps = record {
      works = λ σ d s i. fallen_single d (falls n (σ.worlds d) s) σ.cables i;
      lays = λ σ d p e q k i.
          let apart = ends_apart d p e q k.few (small σ d p k.passes) k.far_few (small σ e q k.far_passes) k.apart in
          table_claims.lay_single σ.cables (end d p) (end e q) apart k.untaken k.far_untaken i;
      cuts = λ σ x i. table_claims.cut_single σ.cables x i;
    }

-- ---- the claims

same_code : {a b i j : ℕ} {s t : List Slot} → Answered a i s ≡ Answered b j t → a ≡ b
same_code e = cc

cut_cuts : (n : ℕ) (σ : System) (d p i : ℕ) (t : List Slot) → act n σ (Cut d p) ≡ Answered 0 i t →
    taken (after n σ (act n σ (Cut d p))).cables (end d p) ≡ false
unfolding act after
cut_cuts n σ d p i t h = rw (same_code h) (cut_gone σ.cables (end d p))

close_cuts : (n : ℕ) (σ : System) (d : ℕ) (s : Step) → falls n (σ.worlds d) s ≢ 0 →
    taken (after n σ (Works d s)).cables (end d (falls n (σ.worlds d) s)) ≡ false
unfolding after
close_cuts n σ d s some = fallen_gone d (falls n (σ.worlds d) s) σ.cables some

pub cable_claims : (n : ℕ) → n ≤ 20 → CableClaims n
cable_claims n most = record {
  single = run_keeps n (λ σ. Single σ.cables) (single_keeps n most);
  cut = cut_cuts n;
  closed = close_cuts n;
  bound = λ σ os b. to_bound n (run n σ os) (run_keeps n (AllPass n) (pass_keeps n most) σ os (from_bound n σ b));
  fresh_bound = λ σ os e. to_bound n (run n σ os) (run_keeps n (AllPass n) (pass_keeps n most) σ os
      (λ x h. clash h (ap (λ t. taken t x) e ∙ table_claims.fresh_none x)));
  size = λ σ os. run_keeps n (λ τ. length τ.cables ≡ length σ.cables) (size_keeps n (length σ.cables)) σ os refl;
}
