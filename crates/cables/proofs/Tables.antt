-- What look-up, cut and lay make of any table.
-- Assumes nothing.
use Prim.Native.Nat.{ℕ, suc, ◌≤◌, ◌<◌}
use mathlib.Core.Path.{◌≡◌, refl, sym, ap, ◌∙◌, subst}
use mathlib.Core.Bool.{Bool, true, false, true≢false, false≢true, cond, not, ◌&&◌, ◌||◌, or-true}
use mathlib.Core.List.{List, [], ◌∷◌, map}
use mathlib.Core.Logic.{◌⊎◌, inl, inr, ◌≢◌}
use native.Mathlib.Omega.{arith}
use borrow.Author.Tests.{ltb-true, ltb-false, lt-ltb, eq-eqb, eqb-true, eqb-false}
use lib.ListN.{length, get_or, length-set, get_or-replicate, length-replicate, get_or-eq_default, get_or-map}
use lib.Seq.{get_or-set_same, get_or-set_other, set_out}
use lib.Dec.{eqb, ltb}
use Rattle.calls.proofs.Cases.{by_test}
use Rattle.cables.specs.Table.{Slot, slot, empty, slot_count, domain_of, port_of, is_end, holds, has, other, slot_of, lowest_with, lowest_free, taken, has_space, find, across, laid_at, cut_slot, cut_at, Single}
use Rattle.cables.specs.Claims.{fresh, TableClaims}
use Rattle.cables.proofs.Lowest.{lowest_at, lowest_there}

-- ---- slots

pub has_empty : (e : ℕ) → has empty e ≡ false
unfolding has holds is_end domain_of port_of
has_empty e = refl

empty_free : holds empty ≡ false
unfolding holds is_end domain_of port_of
empty_free = refl

-- beyond the table is no cable
beyond : (t : List Slot) (i : ℕ) → length t ≤ i → slot_of t i ≡ empty
beyond t i h = get_or-eq_default t empty h

pub has_inside : (t : List Slot) (e i : ℕ) → has (slot_of t i) e ≡ true → i < length t
has_inside t e i h = inside (ltb i (length t)) refl
  where
    inside : (b : Bool) → ltb i (length t) ≡ b → i < length t
    inside true k = ltb-true i (length t) k
    inside false k = absurd (true≢false (sym h ∙ ap (λ s. has s e) (beyond t i (ltb-false i (length t) k)) ∙ has_empty e))

-- a slot that has an end has it as its first or its second number
and_left : (a b : Bool) → (a && b) ≡ true → a ≡ true
and_left true b h = refl
and_left false b h = h

and_right : (a b : Bool) → (a && b) ≡ true → b ≡ true
and_right true b h = h
and_right false b h = absurd (false≢true h)

or_cases : (a b : Bool) → (a || b) ≡ true → (a ≡ true) ⊎ (b ≡ true)
or_cases true b h = inl refl
or_cases false b h = inr h

pub has_holds : (s : Slot) (e : ℕ) → has s e ≡ true → holds s ≡ true
unfolding has
has_holds s e h = and_left (holds s) (eqb s.one e || eqb s.two e) h

pub has_either : (s : Slot) (e : ℕ) → has s e ≡ true → (s.one ≡ e) ⊎ (s.two ≡ e)
unfolding has
has_either s e h = go (or_cases (eqb s.one e) (eqb s.two e) (and_right (holds s) (eqb s.one e || eqb s.two e) h))
  where
    go : (eqb s.one e ≡ true) ⊎ (eqb s.two e ≡ true) → (s.one ≡ e) ⊎ (s.two ≡ e)
    go (inl k) = inl (eqb-true s.one e k)
    go (inr k) = inr (eqb-true s.two e k)

-- and one that holds a cable has both
pub has_one : (s : Slot) → holds s ≡ true → has s s.one ≡ true
unfolding has
has_one s h = rw (h, eq-eqb s.one s.one refl)

pub has_two : (s : Slot) → holds s ≡ true → has s s.two ≡ true
unfolding has
has_two s h = rw (h, eq-eqb s.two s.two refl) (or-true (eqb s.one s.two))

-- ---- taken

pub has_taken_lem : (t : List Slot) (e i : ℕ) → has (slot_of t i) e ≡ true → taken t e ≡ true
has_taken_lem t e i h = lt-ltb (lowest_with t e) (length t) (lowest_there (λ s. has s e) t i (has_inside t e i h) h)

pub taken_has : (t : List Slot) (e : ℕ) → taken t e ≡ true → has (slot_of t (lowest_with t e)) e ≡ true
taken_has t e h = lowest_at (λ s. has s e) t (ltb-true (lowest_with t e) (length t) h)

pub none_has : (t : List Slot) (e i : ℕ) → taken t e ≡ false → has (slot_of t i) e ≡ false
none_has t e i h = go (has (slot_of t i) e) refl
  where
    go : (b : Bool) → has (slot_of t i) e ≡ b → b ≡ false
    go true k = absurd (true≢false (sym (has_taken_lem t e i k) ∙ h))
    go false k = refl

pub none_taken : (t : List Slot) (e : ℕ) → ((i : ℕ) → has (slot_of t i) e ≡ false) → taken t e ≡ false
none_taken t e h = go (taken t e) refl
  where
    go : (b : Bool) → taken t e ≡ b → b ≡ false
    go true k = absurd (true≢false (sym (taken_has t e k) ∙ h (lowest_with t e)))
    go false k = refl

-- ---- look-up

pub found_has : (t : List Slot) (hint e : ℕ) → taken t e ≡ true → has (slot_of t (find t hint e)) e ≡ true
unfolding find
found_has t hint e h = by_test (λ i. has (slot_of t i) e ≡ true) (has (slot_of t hint) e) (λ k. k) (λ k. taken_has t e h)

-- the other end of a slot that has one is an end
other_ends : (s : Slot) (e : ℕ) → holds s ≡ true → is_end (other s e) ≡ true
unfolding holds other
other_ends s e h =
    by_test (λ (x : ℕ). is_end x ≡ true) (eqb s.one e) (λ k. and_right (is_end s.one) (is_end s.two) h) (λ k. and_left (is_end s.one) (is_end s.two) h)

across_ends : (t : List Slot) (hint e : ℕ) → taken t e ≡ true → is_end (across t hint e) ≡ true
across_ends t hint e h = other_ends (slot_of t (find t hint e)) e (has_holds (slot_of t (find t hint e)) e (found_has t hint e h))

find_lowest : (t : List Slot) (e hint : ℕ) → Single t → find t hint e ≡ lowest_with t e
unfolding find
find_lowest t e hint single =
    by_test (λ i. i ≡ lowest_with t e) (has (slot_of t hint) e) (λ k. single.slots e hint (lowest_with t e) k (taken_has t e (has_taken_lem t e hint k))) (λ k. refl)

-- ---- cut

same_empty : (b : Bool) → cond b empty empty ≡ empty
same_empty true = refl
same_empty false = refl

cut_slots : (t : List Slot) (e i : ℕ) → slot_of (cut_at t e) i ≡ cut_slot e (slot_of t i)
cut_slots t e i = ap (λ s. get_or (map (cut_slot e) t) i s) (sym (same_empty (has empty e))) ∙ get_or-map (cut_slot e) t i empty

cut_has_not : (s : Slot) (e : ℕ) → has (cut_slot e s) e ≡ false
cut_has_not s e = by_test (λ x. has x e ≡ false) (has s e) (λ k. has_empty e) (λ k. k)

pub cut_gone : (t : List Slot) (e : ℕ) → taken (cut_at t e) e ≡ false
cut_gone t e = none_taken (cut_at t e) e (λ i. rw (cut_slots t e i) (cut_has_not (slot_of t i) e))

pub cut_size : (t : List Slot) (e : ℕ) → length (cut_at t e) ≡ length t
cut_size [] e = refl
cut_size (s ∷ t) e = ap suc (cut_size t e)

cut_frees : (t : List Slot) (e : ℕ) → taken t e ≡ true → has_space (cut_at t e) ≡ true
cut_frees t e h =
    let i = lowest_with t e in
    let k = taken_has t e h in
    lt-ltb (lowest_free (cut_at t e)) (length (cut_at t e))
    (lowest_there (λ s. not (holds s)) (cut_at t e) i (subst (λ (z : ℕ). i < z) (sym (cut_size t e)) (has_inside t e i k))
    (ap (λ s. not (holds s)) (cut_slots t e i ∙ ap (λ b. cond b empty (slot_of t i)) k) ∙ ap not empty_free))

-- what a slot has after a cut it had before, and both its numbers stayed
pub cut_had : (s : Slot) (e x : ℕ) → has (cut_slot e s) x ≡ true → has s x ≡ true
cut_had s e x = by_test (λ z. has z x ≡ true → has s x ≡ true) (has s e) (λ k h. absurd (true≢false (sym h ∙ has_empty x))) (λ k h. h)

pub cut_held : (s : Slot) (e : ℕ) → holds (cut_slot e s) ≡ true → (cut_slot e s ≡ s) × (has s e ≡ false)
cut_held s e = by_test (λ z. holds z ≡ true → (z ≡ s) × (has s e ≡ false)) (has s e) (λ k h. absurd (true≢false (sym h ∙ empty_free))) (λ k h. (refl, k))

cut_single : (t : List Slot) (e : ℕ) → Single t → Single (cut_at t e)
cut_single t e single = record {
  slots = λ x i j h k. single.slots x i j (cut_had (slot_of t i) e x (rw (cut_slots t e i) at h)) (cut_had (slot_of t j) e x (rw (cut_slots t e j) at k));
  ends = λ i h. let k = (cut_held (slot_of t i) e (ap holds (sym (cut_slots t e i)) ∙ h)).0 in
      ap (λ s. eqb s.one s.two) (cut_slots t e i ∙ k) ∙ single.ends i (ap holds (sym (cut_slots t e i ∙ k)) ∙ h);
}

-- ---- lay

-- the slot that is laid, and the others
pub lay_slot : (t : List Slot) (a b : ℕ) → has_space t ≡ true → slot_of (laid_at t a b) (lowest_free t) ≡ slot a b
lay_slot t a b space = get_or-set_same t (lowest_free t) (slot a b) empty (ltb-true (lowest_free t) (length t) space)

pub lay_others : (t : List Slot) (a b i : ℕ) → i ≢ lowest_free t → slot_of (laid_at t a b) i ≡ slot_of t i
lay_others t a b i apart = get_or-set_other t (lowest_free t) i (slot a b) empty apart

-- a slot of the table after a lay
pub data Laid (t : List Slot) (a b i : ℕ) : Type 0 where
  new : i ≡ lowest_free t → slot_of (laid_at t a b) i ≡ slot a b → Laid t a b i
  old : slot_of (laid_at t a b) i ≡ slot_of t i → Laid t a b i

pub laid_slot : (t : List Slot) (a b i : ℕ) → Laid t a b i
laid_slot t a b i = go (eqb i (lowest_free t)) refl (has_space t) refl
  where
    go : (c : Bool) → eqb i (lowest_free t) ≡ c → (r : Bool) → has_space t ≡ r → Laid t a b i
    go false k r h = old (lay_others t a b i (eqb-false i (lowest_free t) k))
    go true k true h = new (eqb-true i (lowest_free t) k) (ap (λ (j : ℕ). slot_of (laid_at t a b) j) (eqb-true i (lowest_free t) k) ∙ lay_slot t a b h)
    go true k false h = old (ap (λ l. slot_of l i) (set_out t (lowest_free t) (slot a b) (ltb-false (lowest_free t) (length t) h)))

module _ (t : List Slot) (a b : ℕ) (near : taken t a ≡ false) (far : taken t b ≡ false) where
  -- an end of the new cable stands in no old slot
  not_old : (e i : ℕ) → has (slot a b) e ≡ true → has (slot_of t i) e ≡ false
  not_old e i h = go (has_either (slot a b) e h)
    where
      go : (a ≡ e) ⊎ (b ≡ e) → has (slot_of t i) e ≡ false
      go (inl k) = subst (λ x. has (slot_of t i) x ≡ false) k (none_has t a i near)
      go (inr k) = subst (λ x. has (slot_of t i) x ≡ false) k (none_has t b i far)

  lay_once : (e i j : ℕ) → Single t → Laid t a b i → Laid t a b j → has (slot_of (laid_at t a b) i) e ≡ true → has (slot_of (laid_at t a b) j) e ≡ true → i ≡ j
  lay_once e i j single (new p x) (new q y) h k = p ∙ sym q
  lay_once e i j single (new p x) (old y) h k = absurd (true≢false (sym (rw y at k) ∙ not_old e j (rw x at h)))
  lay_once e i j single (old x) (new q y) h k = absurd (true≢false (sym (rw x at h) ∙ not_old e i (rw y at k)))
  lay_once e i j single (old x) (old y) h k = single.slots e i j (rw x at h) (rw y at k)

  lay_apart : (i : ℕ) → Single t → eqb a b ≡ false → Laid t a b i → holds (slot_of (laid_at t a b) i) ≡ true → eqb (slot_of (laid_at t a b) i).one (slot_of (laid_at t a b) i).two ≡ false
  lay_apart i single apart (new p x) h = rw x apart
  lay_apart i single apart (old x) h = rw x (single.ends i (rw x at h))

  lay_single : eqb a b ≡ false → Single t → Single (laid_at t a b)
  lay_single apart single = record {
    slots = λ e i j. lay_once e i j single (laid_slot t a b i) (laid_slot t a b j);
    ends = λ i. lay_apart i single apart (laid_slot t a b i);
  }

  -- where the new cable's ends are ends, every look-up of one of them finds it
  module _ (e hint : ℕ) (space : has_space t ≡ true) (new-has : has (slot a b) e ≡ true) where
    found_new : slot_of (laid_at t a b) (find (laid_at t a b) hint e) ≡ slot a b
    found_new = go (laid_slot t a b (find (laid_at t a b) hint e))
        (found_has (laid_at t a b) hint e (has_taken_lem (laid_at t a b) e (lowest_free t) (ap (λ s. has s e) (lay_slot t a b space) ∙ new-has)))
      where
        go : Laid t a b (find (laid_at t a b) hint e) → has (slot_of (laid_at t a b) (find (laid_at t a b) hint e)) e ≡ true → slot_of (laid_at t a b) (find (laid_at t a b) hint e) ≡ slot a b
        go (new p x) h = x
        go (old x) h = absurd (true≢false (sym (rw x at h) ∙ not_old e (find (laid_at t a b) hint e) new-has))

holds_new : (a b : ℕ) → is_end a ≡ true → is_end b ≡ true → holds (slot a b) ≡ true
unfolding holds
holds_new a b i j = rw (i, j)

lay_near : (t : List Slot) (a b hint : ℕ) → is_end a ≡ true → is_end b ≡ true → eqb a b ≡ false → taken t a ≡ false → taken t b ≡ false → has_space t ≡ true → across (laid_at t a b) hint a ≡ b
unfolding other
lay_near t a b hint i j apart near far space =
    rw (found_new t a b near far a hint space (has_one (slot a b) (holds_new a b i j)), eq-eqb a a refl)

lay_far : (t : List Slot) (a b hint : ℕ) → is_end a ≡ true → is_end b ≡ true → eqb a b ≡ false → taken t a ≡ false → taken t b ≡ false → has_space t ≡ true → across (laid_at t a b) hint b ≡ a
unfolding other
lay_far t a b hint i j apart near far space =
    rw (found_new t a b near far b hint space (has_two (slot a b) (holds_new a b i j)), apart)

-- ---- a fresh table

fresh_slot : (i : ℕ) → slot_of fresh i ≡ empty
fresh_slot i = go (ltb i slot_count) refl
  where
    go : (b : Bool) → ltb i slot_count ≡ b → slot_of fresh i ≡ empty
    go true h = get_or-replicate slot_count i empty empty (ltb-true i slot_count h)
    go false h = beyond fresh i (subst (λ (k : ℕ). k ≤ i) (sym (length-replicate slot_count empty)) (ltb-false i slot_count h))

fresh_has : (e i : ℕ) → has (slot_of fresh i) e ≡ false
fresh_has e i = rw (fresh_slot i) (has_empty e)

fresh_space : has_space fresh ≡ true
fresh_space =
    lt-ltb (lowest_free fresh) (length fresh)
    (lowest_there (λ s. not (holds s)) fresh 0 (rw (length-replicate slot_count empty) (omega arith)) (ap (λ s. not (holds s)) (fresh_slot 0) ∙ ap not empty_free))

pub table_claims : TableClaims
table_claims = record {
  cut_slots = cut_slots;
  cut_gone = cut_gone;
  cut_frees = cut_frees;
  cut_size = cut_size;
  cut_single = cut_single;
  lay_near = lay_near;
  lay_far = lay_far;
  lay_size = λ t a b. length-set t (lowest_free t) (slot a b);
  lay_single = λ t a b apart near far single. lay_single t a b near far apart single;
  across_ends = across_ends;
  hints = λ t e hint other single. find_lowest t e hint single ∙ sym (find_lowest t e other single);
  fresh_single = record {
    slots = λ e i j h k. absurd (true≢false (sym h ∙ fresh_has e i));
    ends = λ i h. absurd (true≢false (sym (rw (fresh_slot i) at h) ∙ empty_free));
  };
  fresh_none = λ e. none_taken fresh e (fresh_has e);
  fresh_space = fresh_space;
}
