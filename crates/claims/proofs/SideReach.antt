-- A side with an invariant that bounds the access due and the number of accesses named is bounded after any acts.
-- Assumes nothing.
use Prim.Native.Nat.{ℕ, ◌≤◌}
use mathlib.Core.Path.{◌≡◌}
use mathlib.Core.Bool.{Bool, true, false, cond}
use mathlib.Core.List.{List, [], ◌∷◌}
use mathlib.Core.Logic.{◌≢◌}
use native.Mathlib.Omega.{arith}
use Rattle.calls.specs.declared.types.Access.{Access}
use Rattle.calls.specs.declared.types.Answer.{Answer}
use Rattle.calls.specs.declared.types.Answer.TheVariants.{NoEntry}
use Rattle.calls.specs.declared.types.Next.TheVariants as next
use Rattle.calls.specs.Claims.{Side, Counting, saturated, run_one, run, ends_call, NamesDue, Counts}
use Rattle.machine.specs.Memory.{place_of}
use Rattle.claims.specs.Reach.{Inside, BoundedFrom}

module _ {Record Request : Type 0} (side : Side Record Request) (P : Counting Record → Type 0) where
  pub always : ((s : Counting Record) → P s → (act : Request) → P (run_one side s act)) → (s : Counting Record) → P s → (acts : List Request) → P (run side s acts)
  always keeps s i [] = i
  always keeps s i (act ∷ acts) = always keeps (run_one side s act) (keeps s i act) acts

  module _ (words_of : Record → ℕ) (limit : ℕ) where
    pub record Bounds (fresh : Record) : Type 0 where
      pub starts : P (record { state = fresh; named = 0 })
      pub keeps : (s : Counting Record) → P s → (act : Request) → P (run_one side s act)
      pub length : (s : Counting Record) → P s → s.named ≤ limit
      pub due : (s : Counting Record) → P s → (x : Access) → side.due s.state ≡ next.Access x → Inside (words_of s.state) (place_of x)
      pub ends : (r : Record) (act : Request) (a : Answer) (count : ℕ) → side.own r act ≡ true → side.replies act ≡ true → side.gives r act ≡ next.Answer a count → a ≢ NoEntry → side.under_way (side.after r act) ≡ false
      pub free : side.under_way fresh ≡ false

    module _ {fresh : Record} (b : Bounds fresh) (names : NamesDue side) (counts : Counts side) where
      pub bounded : BoundedFrom side words_of limit fresh
      bounded acts =
          record {
            length = b.length s i;
            stored = λ u. rw ((counts fresh acts b.free).kept u) (small true (b.length s i));
            due = b.due s i;
            names = λ act x e. b.due (run_one side s act) (b.keeps s i act) x (names s.state act x e);
            count = λ act a count o e. rw ((counts fresh acts b.free).given act a count o e) (small (ends_call side s.state act) (b.length s i));
            ends = b.ends s.state;
          }
        where
          s : Counting Record
          s = run side (record { state = fresh; named = 0 }) acts

          i : P s
          i = always b.keeps _ b.starts acts

          small : (ends : Bool) {k : ℕ} → k ≤ limit → cond ends (saturated k) 0 ≤ limit
          small true h = omega arith
          small false h = omega arith
