-- The laws of small numbers: in lists, in answers, as ports and links, in memory before and after an access.
-- Assumes nothing.
use Prim.Native.Nat.{ℕ, zero, suc, ◌+◌, ◌/◌, ◌^◌, ◌≤◌, ◌<◌}
use mathlib.Core.Path.{◌≡◌, refl}
use mathlib.Core.Bool.{Bool, true, false, not, ◌&&◌, false≢true}
use mathlib.Core.List.{List, [], ◌∷◌, ◌++◌}
use native.Mathlib.Nat.{pow-le-pow_right}
use native.Mathlib.Omega.{arith}
use borrow.Author.Tests.{ltb-true}
use lib.Dec.{eqb, ltb, lit≤}
use lib.ListN.{get_or, set, replicate}
use Rattle.word.specs.Word.{link, Width}
use Rattle.word.specs.Effect.{cas_taken, after_read, after_store, after_swap, after_cas}
use Rattle.word.proofs.WordLaws.{link_lt}
use Rattle.word.proofs.EffectLaws.{or_lt_32, and_lt_32}
use Rattle.calls.specs.declared.types.Place.{Place}
use Rattle.calls.specs.declared.types.Place.TheVariants.{Word, Ready, Head}
use Rattle.calls.specs.declared.types.Access.{Access}
use Rattle.calls.specs.declared.types.Access.TheVariants.{Read, Store, Or, And, Swap, Cas}
use Rattle.calls.specs.declared.types.Answer.{Answer}
use Rattle.calls.specs.declared.types.Next.{Next}
use Rattle.calls.specs.declared.types.Next.TheVariants as next
use Rattle.calls.specs.Answers.{code_of}
use Rattle.calls.specs.Records.{port_limit, is_port}
use Rattle.calls.proofs.Cases.{choose}
use Rattle.machine.specs.declared.types.Event.{Event}
use Rattle.machine.specs.Memory.{Memory, place_of, after_access, loaded, saved, performed, zeroed_from, zero_page}
use Rattle.claims.specs.Numbers.{Small, All, SmallAccess, SmallAnswer, SmallEvent, SmallMemory}

-- what a call or a reply comes to
abbrev pub SmallNext : Next → Type 0
SmallNext (next.Access x) = SmallAccess x
SmallNext (next.Answer a count) = SmallAnswer a

-- ---- lists

pub small_at : (ws : List ℕ) → All Small ws → (k : ℕ) → Small (get_or ws k 0)
small_at [] h k = lit≤ tt
small_at (w ∷ ws) h zero = h.0
small_at (w ∷ ws) h (suc k) = small_at ws h.1 k

pub set_small : (ws : List ℕ) (k v : ℕ) → All Small ws → Small v → All Small (set ws k v)
set_small [] k v h l = tt
set_small (w ∷ ws) zero v h l = (l, h.1)
set_small (w ∷ ws) (suc k) v h l = (h.0, set_small ws k v h.1 l)

pub zeros_small : (k : ℕ) → All Small (replicate k 0)
zeros_small zero = tt
zeros_small (suc k) = (lit≤ tt, zeros_small k)

zeroed_small : (i k : ℕ) (ws : List ℕ) → All Small ws → All Small (zeroed_from i k ws)
unfolding zeroed_from
zeroed_small i k [] h = tt
zeroed_small i k (w ∷ ws) h = (choose Small (eqb (i / 1024) k) (lit≤ tt) h.0, zeroed_small (suc i) k ws h.1)

pub page_small : (k : ℕ) (ws : List ℕ) → All Small ws → All Small (zero_page k ws)
unfolding zero_page
page_small k ws h = zeroed_small 0 k ws h

pub events_small : (es fs : List Event) → All SmallEvent es → All SmallEvent fs → All SmallEvent (es ++ fs)
events_small [] fs h l = l
events_small (e ∷ es) fs h l = (h.0, events_small es fs h.1 l)

-- ---- answers whose numbers compute

abbrev fits : Answer → Bool
fits a = ltb (code_of a).number (2 ^ 32) && ltb (code_of a).value (2 ^ 32)

pub answer_small : {a : Answer} → fits a ≡ true → SmallAnswer a
answer_small {a} = go (ltb (code_of a).number (2 ^ 32)) (ltb (code_of a).value (2 ^ 32)) refl refl
  where
    go : (b c : Bool) → ltb (code_of a).number (2 ^ 32) ≡ b → ltb (code_of a).value (2 ^ 32) ≡ c → b && c ≡ true → SmallAnswer a
    go true true p q h = record { number = ltb-true _ _ p; value = ltb-true _ _ q }
    go true false p q h = absurd (false≢true h)
    go false c p q h = absurd (false≢true h)

-- ---- ports and links

module _ {n : ℕ} (wide : Width n) where
  width_small : (k : ℕ) → k < 2 ^ n → Small k
  width_small k h = let l : 2 ^ n ≤ 2 ^ 20 = pow-le-pow_right (lit≤ tt) wide.most in omega arith

  pub port_small : (p : ℕ) → is_port n p ≡ true → Small p
  unfolding is_port
  port_small p = go (not (eqb p 0)) (ltb p (port_limit n)) refl
    where
      go : (b c : Bool) → ltb p (port_limit n) ≡ c → b && c ≡ true → Small p
      go true true e h = width_small p (ltb-true p (port_limit n) e)
      go true false e h = absurd (false≢true h)
      go false c e h = absurd (false≢true h)

  pub link_small : (w : ℕ) → Small (link n w)
  link_small w = width_small (link n w) (link_lt n w)

-- ---- an access made

after_small : (a : Access) (w : ℕ) → SmallAccess a → Small w → Small (after_access a w)
unfolding after_access after_read after_store after_swap after_cas
after_small (Read p) w h l = l
after_small (Store p v) w h l = h.1
after_small (Or p v) w h l = or_lt_32 w v l h.1
after_small (And p v) w h l = and_lt_32 w v l
after_small (Swap p v) w h l = h.1
after_small (Cas p old new) w h l = choose Small (cas_taken w old) h.2 l

module _ (m : Memory) (i : SmallMemory m) where
  loaded_small : (p : Place) → Small (loaded m p)
  unfolding loaded
  loaded_small (Word p) = small_at m.words i.words p.0
  loaded_small Ready = small_at m.block i.block 0
  loaded_small (Head q) = small_at m.block i.block (q.0 + 2)

  saved_small : (p : Place) (v : ℕ) → Small v → SmallMemory (saved m p v)
  unfolding saved
  saved_small (Word p) v h = record { words = set_small m.words p.0 v i.words h; block = i.block }
  saved_small Ready v h = record { words = i.words; block = set_small m.block 0 v i.block h }
  saved_small (Head q) v h = record { words = i.words; block = set_small m.block (q.0 + 2) v i.block h }

  pub seen_small : (a : Access) → Small (performed m a).seen
  unfolding performed
  seen_small a = loaded_small (place_of a)

  pub performed_small : (a : Access) → SmallAccess a → SmallMemory (performed m a).memory
  unfolding performed
  performed_small a h = saved_small (place_of a) _ (after_small a _ h (loaded_small (place_of a)))
