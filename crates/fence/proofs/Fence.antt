-- The fence by its weakest terms: in two runs that are alike, all but her domain is the same, and hers has the same face. n is the number
-- of link bits.
-- Assumes nothing.
use Prim.Native.Nat.{ℕ}
use mathlib.Core.Path.{◌≡◌, refl, sym, ap, ◌∙◌, subst, fun_ext}
use mathlib.Core.Bool.{Bool, true, false, cond}
use mathlib.Core.List.{List, [], ◌∷◌}
use borrow.Author.Tests.{eq-eqb, ne_eqb, eqb-true, eqb-false}
use lib.Dec.{eqb}
use Rattle.machine.specs.declared.types.Step.{Step}
use Rattle.machine.specs.declared.types.Event.{Event}
use Rattle.machine.specs.Exec.{exec}
use Rattle.cables.specs.Rules.{port_refusal, table_fallen}
use Rattle.fence.specs.System.{System, Order, On, Act, Answered, Works, refusal_at, comes_to, act, falls, after, from_each, heard, trace}
use Rattle.fence.specs.Fence.{Kind, kind, Like, same, hers, refused, weakest, refused_hers, Alike, outside, outside_all, Held, with_words, FenceHolds}
use Rattle.fence.proofs.FaceOf.{Face, face, moved, refusal_of, falls_of}
use Rattle.fence.proofs.Face.{refusal_face, exec_face, falls_face}

record Same (h : ℕ) (σ τ : System) : Type 0 where
  others : (d : ℕ) → eqb d h ≡ false → σ.worlds d ≡ τ.worlds d
  her : face (σ.worlds h) ≡ face (τ.worlds h)
  cables : σ.cables ≡ τ.cables

eqb_self : (h : ℕ) → eqb h h ≡ true
eqb_self h = eq-eqb h h refl

eqb_turn : (d h : ℕ) → eqb d h ≡ false → eqb h d ≡ false
eqb_turn d h e = ne_eqb h d (λ q. eqb-false d h e (sym q))

-- what is read off equal faces, kinds and refusals is equal
read_same : {A : Type 0} (f : Face → Kind → Bool → A) {x y : Face} {k j : Kind} {b c : Bool} → x ≡ y → k ≡ j → b ≡ c → f x k b ≡ f y j c
read_same f p q r = cc

-- what is heard of her is not heard outside
outside_hers : (h : ℕ) (l : List Event) → outside h (from_each h l) ≡ []
outside_hers h [] = refl
outside_hers h (x ∷ l) = rw (eqb_self h) (outside_hers h l)

-- ---- one order

module _ (n h : ℕ) (σ τ : System) (S : Same h σ τ) where
  -- each port's own refusal is the same, hers too
  refusals_same : (d p : ℕ) → refusal_at n σ d p ≡ refusal_at n τ d p
  refusals_same d p = go (eqb d h) refl
    where
      go : (b : Bool) → eqb d h ≡ b → refusal_at n σ d p ≡ refusal_at n τ d p
      go true e =
          rw (eqb-true d h e) (refusal_face n (σ.worlds h) p ∙ ap (λ f. refusal_of n f p) S.her ∙ sym (refusal_face n (τ.worlds h) p))
      go false e = ap (λ w. port_refusal n w.domain w.ledger p) (S.others d e)

  -- so an order comes to the same act
  act_same : (o : Order) → act n σ o ≡ act n τ o
  unfolding act
  act_same o =
      ap (λ refusal. comes_to refusal σ.cables o) (fun_ext (λ d. fun_ext (λ p. refusals_same d p)))
      ∙ ap (λ t. comes_to (refusal_at n τ) t o) S.cables

  record Kept (a b : Act) : Type 0 where
    now : outside h (heard n σ a) ≡ outside h (heard n τ b)
    later : Same h (after n σ a) (after n τ b)

  -- her step
  kept_hers : (s t : Step) → kind s ≡ kind t → refused n weakest (σ.worlds h) s ≡ refused n weakest (τ.worlds h) t →
      Kept (Works h s) (Works h t)
  unfolding after heard
  kept_hers s t k r = record {
    now = outside_hers h (exec n (σ.worlds h) s).events ∙ sym (outside_hers h (exec n (τ.worlds h) t).events);
    later = record {
      others = λ d e. rw e (S.others d e);
      her = rw (eqb_self h) (exec_face n (σ.worlds h) s ∙ read_same moved S.her k r ∙ sym (exec_face n (τ.worlds h) t));
      cables = ap (λ p. table_fallen h p σ.cables)
          (falls_face n (σ.worlds h) s ∙ read_same falls_of S.her k r ∙ sym (falls_face n (τ.worlds h) t))
          ∙ ap (table_fallen h (falls n (τ.worlds h) t)) S.cables;
    };
  }

  -- another domain's
  kept_other : (d : ℕ) (s : Step) → eqb d h ≡ false → Kept (Works d s) (Works d s)
  unfolding after heard
  kept_other d s e = record {
    now = ap (λ w. outside h (from_each d (exec n w s).events)) (S.others d e);
    later = record {
      others = λ j k. ap (λ w. cond (eqb j d) (exec n w s).world (σ.worlds j)) (S.others d e)
          ∙ ap (cond (eqb j d) (exec n (τ.worlds d) s).world) (S.others j k);
      her = rw (eqb_turn d h e) S.her;
      cables = ap (λ w. table_fallen d (falls n w s) σ.cables) (S.others d e) ∙ ap (table_fallen d (falls n (τ.worlds d) s)) S.cables;
    };
  }

  kept_act : (a : Act) → refused_hers n weakest h σ a ≡ refused_hers n weakest h τ a → Kept a a
  unfolding after heard
  kept_act (Answered code i t) r = record { now = refl; later = record { others = S.others; her = S.her; cables = refl } }
  kept_act (Works d s) r = go (eqb d h) refl
    where
      go : (b : Bool) → eqb d h ≡ b → Kept (Works d s) (Works d s)
      go false e = kept_other d s e
      go true e =
          subst (λ k. Kept (Works k s) (Works k s)) (sym (eqb-true d h e)) (kept_hers s s refl (rw (eqb-true d h e, eqb_self h) at r))

  kept_own : (s t : Step) → kind s ≡ kind t → refused_hers n weakest h σ (act n σ (On h s)) ≡ refused_hers n weakest h τ (act n τ (On h t)) →
      Kept (act n σ (On h s)) (act n τ (On h t))
  unfolding act
  kept_own s t k r = kept_hers s t k (rw (eqb_self h) at r)

  kept : {o p : Order} → Like h o p → refused_hers n weakest h σ (act n σ o) ≡ refused_hers n weakest h τ (act n τ p) →
      Kept (act n σ o) (act n τ p)
  kept (same o) r =
      subst (λ a. Kept (act n σ o) a) (act_same o) (kept_act (act n σ o) (r ∙ ap (refused_hers n weakest h τ) (sym (act_same o))))
  kept (hers s t k) r = kept_own s t k r

-- ---- lists

fenced : (n h : ℕ) (σ τ : System) (os ps : List Order) → Same h σ τ → Alike n weakest h σ τ os ps → Held n h σ τ os ps
fenced n h σ τ [] [] S a = record { heard = refl; worlds = S.others; cables = S.cables }
fenced n h σ τ [] (p ∷ ps) S a = absurd a
fenced n h σ τ (o ∷ os) [] S a = absurd a
fenced n h σ τ (o ∷ os) (p ∷ ps) S a =
    let k = kept n h σ τ S a.0 a.1 in
    let f = fenced n h (after n σ (act n σ o)) (after n τ (act n τ p)) os ps k.later a.2 in
    record {
      heard = ap (λ l. l ∷ outside_all h (trace n (after n σ (act n σ o)) os)) k.now
          ∙ ap (λ ls. outside h (heard n τ (act n τ p)) ∷ ls) f.heard;
      worlds = f.worlds;
      cables = f.cables;
    }

pub fence_weakest : (n : ℕ) → FenceHolds n weakest
unfolding FenceHolds
fence_weakest n σ h m os ps a =
    fenced n h σ (with_words σ h m) os ps (record { others = λ d e. rw e; her = rw (eqb_self h); cables = refl }) a
