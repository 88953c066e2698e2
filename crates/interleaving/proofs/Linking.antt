-- What a raise or unmask under way is, whichever of the two.
-- Assumes nothing.
use mathlib.Core.Path.{◌≡◌, refl}
use mathlib.Core.Bool.{true, false}
use Prim.Native.Nat.{ℕ}
use Rattle.calls.specs.declared.types.Owner.{Owner}
use Rattle.calls.specs.declared.types.Owner.TheVariants as owner
use Rattle.calls.specs.declared.types.Stage.TheVariants as stage
use Rattle.calls.specs.Records.{is_free}
use Rattle.queue.specs.Model.{Kind, Call}
use Rattle.queue.specs.Model.Kind.{at_r1, at_u1, at_bind, at_close}
use Rattle.queue.specs.Model.Call.{idle, asks}
use Rattle.queue.proofs.Cases.{clash}
use Rattle.interleaving.specs.Held.{is_linking}
use Rattle.interleaving.proofs.View.{unless_none, call_by}

pub under_way_lem : (o : Owner) (c : Call) → is_linking o ≡ true → unless_none o c ≡ c
under_way_lem owner.None c e = clash e refl
under_way_lem owner.Bind c e = refl
under_way_lem owner.Close c e = refl
under_way_lem owner.Raise c e = refl
under_way_lem owner.Unmask c e = refl

pub not_free : (o : Owner) → is_linking o ≡ true → is_free o ≡ false
unfolding is_free
not_free owner.None e = clash e refl
not_free owner.Bind e = refl
not_free owner.Close e = refl
not_free owner.Raise e = refl
not_free owner.Unmask e = refl

-- where P fails of an idle call, P of `unless_none o c` is P of c
pub unless : (P : Call → Type 0) → (P idle → ⊥) → (o : Owner) (c : Call) → P (unless_none o c) → P c
unless P none owner.None c h = absurd (none h)
unless P none owner.Bind c h = h
unless P none owner.Close c h = h
unless P none owner.Raise c h = h
unless P none owner.Unmask c h = h

-- a call at its first access asks for its port
pub first_asks : (P : Call → Type 0) (n p q x t : ℕ) → (P idle → ⊥) → ((k : Kind) → P (asks k p) → ⊥) → (o : Owner) → P (call_by n o stage.First p q x t) → ⊥
first_asks P n p q x t none asked owner.None h = none h
first_asks P n p q x t none asked owner.Bind h = asked at_bind h
first_asks P n p q x t none asked owner.Close h = asked at_close h
first_asks P n p q x t none asked owner.Raise h = asked at_r1 h
first_asks P n p q x t none asked owner.Unmask h = asked at_u1 h
