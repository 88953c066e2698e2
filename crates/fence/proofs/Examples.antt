-- The examples, by computation.
-- Assumes nothing.
use Prim.Native.Nat.{ℕ, ◌+◌}
use mathlib.Core.Path.{◌≡◌, refl, sym, ap, ◌∙◌}
use mathlib.Core.Bool.{Bool, true, false, cond, not, ◌&&◌}
use mathlib.Core.List.{List, [], ◌∷◌, ◌++◌}
use borrow.Author.Tests.{eqb-false, not-true}
use lib.Dec.{eqb, lit≤}
use lib.ListN.{replicate, length-replicate, length-append}
use Rattle.word.specs.Word.{link_bits}
use Rattle.calls.specs.Answers.{code_of}
use Rattle.queue.proofs.Cases.{and_both}
use Rattle.machine.specs.Computes.{runs}
use Rattle.machine.specs.declared.types.Step.{Step}
use Rattle.machine.specs.Exec.{World}
use Rattle.cables.specs.Table.{end, domain_of, port_of, is_end, holds, has, other, lowest, find}
use Rattle.cables.specs.Rules.{refusal_by, join_refusal, lay_refusal, near_refusal}
use Rattle.fence.specs.System.{System, Order, On, Act, Answered, Works, act, falls, after, heard, trace}
use Rattle.fence.specs.Fence.{same, hers, Terms, refused, every_call, refused_hers, Alike, outside_all, Held, with_words, FenceHolds}
use Rattle.fence.specs.Domains.{EachDemand3}
use Rattle.fence.specs.Examples.{sees, start, CableHolds, Twin, both, seen, first, second, all_but, at_starts, asks_hers, AlikeBy, FenceWithoutSeven, answers, binding, busy_bind, busy_close, busy_expand, odd, busy_init, TermsNeeded, other_words, sending, start_again, TermsMet, neighbour, NeighbourKeeps, NeighbourClaim}
use Rattle.fence.proofs.EveryCall.{fence}
use Rattle.fence.proofs.Demands.{each_demand3_today}

-- opens every definition that an order uses
system : ℕ
unfolding runs code_of end domain_of port_of is_end holds has other lowest find refusal_by join_refusal lay_refusal near_refusal act falls after heard refused
system = 0

pub cable_holds : CableHolds
unfolding system
cable_holds = record { there = refl; back = refl; stands = refl; gone = refl }

-- ---- whether two lists are alike, as a test

agree : Bool → Bool → Bool
agree a b = cond a b (not b)

agrees : (a b : Bool) → agree a b ≡ true → a ≡ b
unfolding agree
agrees true true e = refl
agrees true false e = cc
agrees false true e = cc
agrees false false e = refl

module _ (n : ℕ) (asks : World → Step → Bool) where
  -- of one order
  agree_at : System → System → Order → Order → Bool
  agree_at σ τ o p = agree (asks_hers n asks 0 σ (act n σ o)) (asks_hers n asks 0 τ (act n τ p))

  alike : System → System → List Twin → Bool
  alike σ τ [] = true
  alike σ τ (both o ∷ ls) = agree_at σ τ o o && alike (after n σ (act n σ o)) (after n τ (act n τ o)) ls
  alike σ τ (seen v w ∷ ls) =
      agree_at σ τ (On 0 (sees v)) (On 0 (sees w)) && alike (after n σ (act n σ (On 0 (sees v)))) (after n τ (act n τ (On 0 (sees w)))) ls

  alike_by : (σ τ : System) (ls : List Twin) → alike σ τ ls ≡ true → AlikeBy n asks 0 σ τ (first ls) (second ls)
  unfolding alike agree_at
  alike_by σ τ [] e = tt
  alike_by σ τ (both o ∷ ls) e =
      let d = and_both (agree_at σ τ o o) _ e in
      (same o, agrees _ _ d.0, alike_by (after n σ (act n σ o)) (after n τ (act n τ o)) ls d.1)
  alike_by σ τ (seen v w ∷ ls) e =
      let d = and_both (agree_at σ τ (On 0 (sees v)) (On 0 (sees w))) _ e in
      (hers _ _ refl, agrees _ _ d.0, alike_by (after n σ (act n σ (On 0 (sees v)))) (after n τ (act n τ (On 0 (sees w)))) ls d.1)

module _ (n : ℕ) (asked : Terms) (h : ℕ) where
  same_test : (σ : System) (a : Act) → asks_hers n (refused n asked) h σ a ≡ refused_hers n asked h σ a
  same_test σ (Answered code i t) = refl
  same_test σ (Works d s) = refl

  alike_terms : (σ τ : System) (os ps : List Order) → AlikeBy n (refused n asked) h σ τ os ps → Alike n asked h σ τ os ps
  alike_terms σ τ [] [] a = tt
  alike_terms σ τ [] (p ∷ ps) a = absurd a
  alike_terms σ τ (o ∷ os) [] a = absurd a
  alike_terms σ τ (o ∷ os) (p ∷ ps) a =
      (a.0, sym (same_test σ (act n σ o)) ∙ a.1 ∙ same_test τ (act n τ p), alike_terms (after n σ (act n σ o)) (after n τ (act n τ p)) os ps a.2)

-- ---- each term is needed

-- answers as one number, which tells lists of them apart
total : List ℕ → ℕ
total [] = 0
total (code ∷ l) = code + 1 + total l

-- what is answered outside her domain
sum : System → List Order → ℕ
sum σ os = total (answers (outside_all 0 (trace link_bits σ os)))

module _ (σ : System) (ls : List Twin) where
  -- her words are the same at the start
  abbrev τ : System
  τ = with_words σ 0 (σ.worlds 0).memory

  differ : Bool
  differ = not (eqb (sum σ (first ls)) (sum τ (second ls)))

  not_held : differ ≡ true → Held link_bits 0 σ τ (first ls) (second ls) → ⊥
  unfolding differ sum
  not_held e h = eqb-false _ _ (not-true _ e) (ap (λ l. total (answers l)) h.heard)

  terms_fall : (asked : Terms) → alike link_bits (refused link_bits asked) σ τ ls ≡ true → differ ≡ true → FenceHolds link_bits asked → ⊥
  unfolding FenceHolds
  terms_fall asked a e f =
      let k = alike_by link_bits (refused link_bits asked) σ τ ls a in
      not_held e (f σ 0 (σ.worlds 0).memory (first ls) (second ls) (alike_terms link_bits asked 0 σ τ (first ls) (second ls) k))

  seven_falls : alike link_bits (at_starts link_bits) σ τ ls ≡ true → differ ≡ true → FenceWithoutSeven link_bits → ⊥
  seven_falls a e f = not_held e (f σ 0 (σ.worlds 0).memory (first ls) (second ls) (alike_by link_bits (at_starts link_bits) σ τ ls a))

pub terms_needed : TermsNeeded
unfolding system alike agree_at agree total sum differ
terms_needed = record {
  seven = record { one_says = refl; two_says = refl; falls = seven_falls (start 16 []) binding refl refl };
  bind = record { one_says = refl; two_says = refl; falls = terms_fall (start 16 []) busy_bind (all_but 2) refl refl };
  close = record { one_says = refl; two_says = refl; falls = terms_fall (start 16 []) busy_close (all_but 3) refl refl };
  expand = record { one_says = refl; two_says = refl; falls = terms_fall (start 1031 []) busy_expand (all_but 1) refl refl };
  init = record { one_says = refl; two_says = refl; falls = terms_fall odd busy_init (all_but 0) refl refl };
}

-- ---- the terms can be met

sending_alike : Alike link_bits every_call 0 (start 16 []) start_again (first sending) (second sending)
unfolding system alike agree_at agree
sending_alike =
    alike_terms link_bits every_call 0 (start 16 []) start_again (first sending) (second sending)
    (alike_by link_bits (refused link_bits every_call) (start 16 []) start_again sending refl)

pub terms_met : TermsMet
unfolding system FenceHolds
terms_met = record {
  alike = sending_alike;
  there = refl;
  back = refl;
  busy = refl;
  free = refl;
  held = fence link_bits (start 16 []) 0 other_words (first sending) (second sending) sending_alike;
}

pub neighbour_keeps : (rest : List ℕ) → NeighbourKeeps rest
unfolding system
neighbour_keeps rest = record {
  own = refl;
  rules = (tt, (tt, (tt, (tt, (tt, (lit≤ tt, (tt, (tt, (tt, (refl, (refl, (refl, (refl, (refl, (refl, tt)))))))))))))));
  given = refl;
}

pub neighbour_claim : NeighbourClaim
unfolding EachDemand3
neighbour_claim rest enough =
    each_demand3_today (start 16 rest) neighbour 39 (replicate 16 1 ++ rest) 16 refl
    (rw (length-append (replicate 16 1) rest, length-replicate {A = ℕ} 16 1) enough) (neighbour_keeps rest).rules
