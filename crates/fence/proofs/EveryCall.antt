-- The fence by T-01's own terms: where the same is refused of every call, the same is refused of those that the weakest terms ask about.
-- n is the number of link bits.
-- Assumes nothing.
use Prim.Native.Nat.{ℕ}
use mathlib.Core.Path.{◌≡◌, refl, sym, ap, ◌∙◌}
use mathlib.Core.Bool.{Bool, true, false, cond, ◌&&◌}
use mathlib.Core.List.{List, [], ◌∷◌}
use lib.Dec.{eqb}
use Rattle.word.specs.declared.Port.{Port}
use Rattle.word.specs.Word.{port_at}
use Rattle.calls.proofs.Cases.{choose}
use Rattle.machine.specs.declared.types.Side.TheVariants as side
use Rattle.machine.specs.declared.types.Start.TheVariants.{Raise}
use Rattle.machine.specs.declared.types.Step.{Step}
use Rattle.machine.specs.declared.types.Step.TheVariants as step
use Rattle.machine.specs.Exec.{World}
use Rattle.cables.specs.Table.{end, domain_of, port_of, across}
use Rattle.cables.specs.Rules.{near_refusal}
use Rattle.fence.specs.System.{System, Order, On, Lay, Cut, Send, Act, Works, refusal_at, act, after}
use Rattle.fence.specs.Fence.{Kind, Starts, Replies, GuestDoes, kind, Like, same, hers, refused, weakest, every_call, refused_hers, Alike, with_words, FenceHolds}
use Rattle.fence.proofs.Fence.{fence_weakest}

-- what the weakest terms ask of a step
abbrev asks : Kind → Bool
asks (Starts c) = weakest c
asks Replies = true
asks GuestDoes = true

module _ (n h : ℕ) where
  weakly : (w : World) (s : Step) → refused n weakest w s ≡ (asks (kind s) && refused n every_call w s)
  unfolding refused
  weakly w (step.Hypervisor c) = refl
  weakly w (step.Guest c) = refl
  weakly w (step.Perform side.Hypervisor) = refl
  weakly w (step.Perform side.Guest) = refl
  weakly w (step.HandBack side.Hypervisor word) = refl
  weakly w (step.HandBack side.Guest word) = refl

  -- no raise, so no send, is asked about
  raise_unasked : (σ : System) (d : ℕ) (p : Port) → refused_hers n weakest h σ (Works d (step.Hypervisor (Raise p))) ≡ false
  unfolding refused
  raise_unasked σ d p = choose (λ b. b ≡ false) (eqb d h) refl refl

  send_unasked : (σ : System) (d p hint : ℕ) → refused_hers n weakest h σ (act n σ (Send d p hint)) ≡ false
  unfolding act
  send_unasked σ d p hint =
      let far = across σ.cables hint (end d p) in
      choose (λ a. refused_hers n weakest h σ a ≡ false) (eqb (near_refusal d (refusal_at n σ d p) σ.cables (end d p)) 0)
      (raise_unasked σ (domain_of far) (port_at (port_of far))) refl

  module _ (σ τ : System) where
    -- acts a of the one run and b of the other
    abbrev Less : Act → Act → Type 0
    Less a b = refused_hers n every_call h σ a ≡ refused_hers n every_call h τ b → refused_hers n weakest h σ a ≡ refused_hers n weakest h τ b

    works_less : (d : ℕ) (s t : Step) → kind s ≡ kind t → Less (Works d s) (Works d t)
    works_less d s t k = go (eqb d h)
      where
        w : World
        w = σ.worlds d

        v : World
        v = τ.worlds d

        go : (b : Bool) → cond b (refused n every_call w s) false ≡ cond b (refused n every_call v t) false →
            cond b (refused n weakest w s) false ≡ cond b (refused n weakest v t) false
        go true r = weakly w s ∙ ap (λ x. asks x && refused n every_call w s) k ∙ ap (λ b. asks (kind t) && b) r ∙ sym (weakly v t)
        go false r = refl

    like_less : {o p : Order} → Like h o p → Less (act n σ o) (act n τ p)
    unfolding act
    like_less (same (On d s)) r = works_less d s s refl r
    like_less (same (Lay d p e q)) r = refl
    like_less (same (Cut d p)) r = refl
    like_less (same (Send d p hint)) r = send_unasked σ d p hint ∙ sym (send_unasked τ d p hint)
    like_less (hers s t k) r = works_less h s t k r

  alike_less : (σ τ : System) (os ps : List Order) → Alike n every_call h σ τ os ps → Alike n weakest h σ τ os ps
  alike_less σ τ [] [] a = tt
  alike_less σ τ [] (p ∷ ps) a = absurd a
  alike_less σ τ (o ∷ os) [] a = absurd a
  alike_less σ τ (o ∷ os) (p ∷ ps) a = (a.0, like_less σ τ a.0 a.1, alike_less (after n σ (act n σ o)) (after n τ (act n τ p)) os ps a.2)

pub fence : (n : ℕ) → FenceHolds n every_call
unfolding FenceHolds
fence n σ h m os ps a = fence_weakest n σ h m os ps (alike_less n h σ (with_words σ h m) os ps a)
