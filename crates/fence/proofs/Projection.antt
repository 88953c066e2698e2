-- The system's run, seen from one domain, is the machine's run of that domain's own list. n is the number of link bits.
-- Assumes nothing.
use Prim.Native.Nat.{ℕ}
use mathlib.Core.Path.{◌≡◌, refl, sym, ap, ◌∙◌, subst}
use mathlib.Core.Bool.{Bool, true, false}
use mathlib.Core.List.{List, [], ◌∷◌, ◌++◌, append_assoc, append-nil}
use lib.Dec.{eqb}
use borrow.Author.Tests.{eq-eqb, eqb-true}
use Rattle.machine.specs.declared.types.Step.{Step}
use Rattle.machine.specs.declared.types.Event.{Event}
use Rattle.machine.specs.Exec.{World, exec, exec_all}
use Rattle.fence.specs.System.{System, Order, Act, Answered, Works, act, with_world, after, from_each, heard, run, trace}
use Rattle.fence.specs.Domains.{own, own_list, only, only_all, Projects}

module _ (n : ℕ) where
  world_append : (w : World) (ss ts : List Step) → (exec_all n w (ss ++ ts)).world ≡ (exec_all n (exec_all n w ss).world ts).world
  unfolding exec_all
  world_append w [] ts = refl
  world_append w (s ∷ ss) ts = world_append (exec n w s).world ss ts

  events_append : (w : World) (ss ts : List Step) →
      (exec_all n w (ss ++ ts)).events ≡ (exec_all n w ss).events ++ (exec_all n (exec_all n w ss).world ts).events
  unfolding exec_all
  events_append w [] ts = refl
  events_append w (s ∷ ss) ts = rw (events_append (exec n w s).world ss ts) (sym (append_assoc (exec n w s).events _ _))

  module _ (d : ℕ) where
    -- one act
    own_world : (σ : System) (a : Act) → (after n σ a).worlds d ≡ (exec_all n (σ.worlds d) (own d a)).world
    unfolding after exec_all
    own_world σ (Answered code i t) = refl
    own_world σ (Works e s) = go (eqb d e) refl
      where
        go : (b : Bool) → eqb d e ≡ b →
            with_world σ.worlds e (exec n (σ.worlds e) s).world d ≡ (exec_all n (σ.worlds d) (own d (Works e s))).world
        go true k = rw k (ap (λ (j : ℕ). (exec n (σ.worlds j) s).world) (sym (eqb-true d e k)))
        go false k = rw k

    only_own : (l : List Event) → only d (from_each d l) ≡ l
    only_own [] = refl
    only_own (x ∷ l) = rw (eq-eqb d d refl) (ap (λ m. x ∷ m) (only_own l))

    only_other : (e : ℕ) (l : List Event) → eqb d e ≡ false → only d (from_each e l) ≡ []
    only_other e [] k = refl
    only_other e (x ∷ l) k = rw k (only_other e l k)

    own_events : (σ : System) (a : Act) → only d (heard n σ a) ≡ (exec_all n (σ.worlds d) (own d a)).events
    unfolding heard exec_all
    own_events σ (Answered code i t) = refl
    own_events σ (Works e s) = go (eqb d e) refl
      where
        go : (b : Bool) → eqb d e ≡ b →
            only d (from_each e (exec n (σ.worlds e) s).events) ≡ (exec_all n (σ.worlds d) (own d (Works e s))).events
        go true k = rw k
            (subst (λ (j : ℕ). only d (from_each j (exec n (σ.worlds j) s).events) ≡ (exec n (σ.worlds d) s).events ++ []) (eqb-true d e k)
            (only_own (exec n (σ.worlds d) s).events ∙ sym (append-nil (exec n (σ.worlds d) s).events)))
        go false k = rw k (only_other e (exec n (σ.worlds e) s).events k)

    world_of_lem : (σ : System) (os : List Order) → (run n σ os).worlds d ≡ (exec_all n (σ.worlds d) (own_list n d σ os)).world
    unfolding exec_all
    world_of_lem σ [] = refl
    world_of_lem σ (o ∷ os) =
        let τ = after n σ (act n σ o) in
        world_of_lem τ os ∙ ap (λ w. (exec_all n w (own_list n d τ os)).world) (own_world σ (act n σ o))
        ∙ sym (world_append (σ.worlds d) (own d (act n σ o)) (own_list n d τ os))

    events_of : (σ : System) (os : List Order) → only_all d (trace n σ os) ≡ (exec_all n (σ.worlds d) (own_list n d σ os)).events
    unfolding exec_all
    events_of σ [] = refl
    events_of σ (o ∷ os) =
        let a = act n σ o in
        let τ = after n σ a in
        ap (λ l. l ++ only_all d (trace n τ os)) (own_events σ a)
        ∙ ap (λ l. (exec_all n (σ.worlds d) (own d a)).events ++ l) (events_of τ os)
        ∙ ap (λ w. (exec_all n (σ.worlds d) (own d a)).events ++ (exec_all n w (own_list n d τ os)).events) (own_world σ a)
        ∙ sym (events_append (σ.worlds d) (own d a) (own_list n d τ os))

pub projects : (n : ℕ) → Projects n
projects n = record { world = world_of_lem n; events = events_of n }
