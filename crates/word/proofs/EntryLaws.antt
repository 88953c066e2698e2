-- The laws of ledger entries: what each update makes of each field, and that it keeps every other bit.
-- Assumes nothing.
use mathlib.Core.Path.{◌≡◌, refl, ap, ◌∙◌}
use mathlib.Core.Bool.{Bool, true, false, ◌||◌}
use Prim.Native.Nat.{ℕ, ◌+◌, ◌*◌, ◌/◌, ◌%◌, ◌^◌, ◌≤◌, ◌<◌}
use native.Mathlib.Nat.{mod-eq_of_lt}
use native.Mathlib.Omega.{arith}
use borrow.Author.Tests.{le-leb}
use lib.Dec.{eqb, leb, lit≤}
use Rattle.word.specs.Bits.{field, with_field, bit}
use Rattle.word.specs.Entry.{fresh_entry, priority, last_queue, bound, ever_linked, with_priority, bound_entry, closed_entry, linked_entry}
use Rattle.word.proofs.BitLaws.{field_lt, field_same, field_other, with_field-lt, bit_other}

bit_same : (l e v : ℕ) → bit l (with_field l 1 e v) ≡ eqb (v % 2) 1
unfolding bit
bit_same l e v = ap (λ (x : ℕ). eqb x 1) (field_same l 1 e v)

pub priority_lt : (e : ℕ) → priority e < 16
unfolding priority
priority_lt e = field_lt 0 4 e

pub last_queue-lt : (e : ℕ) → last_queue e < 16
unfolding last_queue
last_queue-lt e = field_lt 4 4 e

-- ---- set priority

module _ (e r : ℕ) where
  pub priority-with_priority : r < 16 → priority (with_priority e r) ≡ r
  unfolding priority with_priority
  priority-with_priority h = field_same 0 4 e r ∙ mod-eq_of_lt h

  pub last_queue-with_priority : last_queue (with_priority e r) ≡ last_queue e
  unfolding last_queue with_priority
  last_queue-with_priority = field_other 0 4 e r 4 4 refl

  pub bound-with_priority : bound (with_priority e r) ≡ bound e
  unfolding bound with_priority
  bound-with_priority = bit_other 0 4 e r 8 refl

  pub ever_linked-with_priority : ever_linked (with_priority e r) ≡ ever_linked e
  unfolding ever_linked with_priority
  ever_linked-with_priority = bit_other 0 4 e r 9 refl

-- ---- bind and close

module _ (e : ℕ) where
  pub bound-bound_entry : bound (bound_entry e) ≡ true
  unfolding bound bound_entry
  bound-bound_entry = bit_same 8 e 1

  pub priority-bound_entry : priority (bound_entry e) ≡ priority e
  unfolding priority bound_entry
  priority-bound_entry = field_other 8 1 e 1 0 4 refl

  pub last_queue-bound_entry : last_queue (bound_entry e) ≡ last_queue e
  unfolding last_queue bound_entry
  last_queue-bound_entry = field_other 8 1 e 1 4 4 refl

  pub ever_linked-bound_entry : ever_linked (bound_entry e) ≡ ever_linked e
  unfolding ever_linked bound_entry
  ever_linked-bound_entry = bit_other 8 1 e 1 9 refl

  pub bound-closed_entry : bound (closed_entry e) ≡ false
  unfolding bound closed_entry
  bound-closed_entry = bit_same 8 (with_field 0 4 e 7) 0

  pub priority-closed_entry : priority (closed_entry e) ≡ 7
  unfolding priority closed_entry
  priority-closed_entry = field_other 8 1 (with_field 0 4 e 7) 0 0 4 refl ∙ field_same 0 4 e 7

  pub last_queue-closed_entry : last_queue (closed_entry e) ≡ last_queue e
  unfolding last_queue closed_entry
  last_queue-closed_entry = field_other 8 1 (with_field 0 4 e 7) 0 4 4 refl ∙ field_other 0 4 e 7 4 4 refl

  pub ever_linked-closed_entry : ever_linked (closed_entry e) ≡ ever_linked e
  unfolding ever_linked closed_entry
  ever_linked-closed_entry = bit_other 8 1 (with_field 0 4 e 7) 0 9 refl ∙ bit_other 0 4 e 7 9 refl

-- ---- link (R2)

module _ (e q : ℕ) where
  pub last_queue-linked_entry : q < 16 → last_queue (linked_entry e q) ≡ q
  unfolding last_queue linked_entry
  last_queue-linked_entry h = field_other 9 1 (with_field 4 4 e q) 1 4 4 refl ∙ field_same 4 4 e q ∙ mod-eq_of_lt h

  pub ever_linked-linked_entry : ever_linked (linked_entry e q) ≡ true
  unfolding ever_linked linked_entry
  ever_linked-linked_entry = bit_same 9 (with_field 4 4 e q) 1

  pub priority-linked_entry : priority (linked_entry e q) ≡ priority e
  unfolding priority linked_entry
  priority-linked_entry = field_other 9 1 (with_field 4 4 e q) 1 0 4 refl ∙ field_other 4 4 e q 0 4 refl

  pub bound-linked_entry : bound (linked_entry e q) ≡ bound e
  unfolding bound linked_entry
  bound-linked_entry = bit_other 9 1 (with_field 4 4 e q) 1 8 refl ∙ bit_other 4 4 e q 8 refl

-- ---- bits 10 to 15, kept as found

kept_bit : (l s e v k : ℕ) → l + s ≤ k → bit k (with_field l s e v) ≡ bit k e
kept_bit l s e v k h = bit_other l s e v k (ap (λ (t : Bool). t || leb (1 + k) l) (le-leb (l + s) k h))

module _ (e k : ℕ) (h : 10 ≤ k) where
  pub kept-with_priority : (r : ℕ) → bit k (with_priority e r) ≡ bit k e
  unfolding with_priority
  kept-with_priority r = kept_bit 0 4 e r k (omega arith)

  pub kept-bound_entry : bit k (bound_entry e) ≡ bit k e
  unfolding bound_entry
  kept-bound_entry = kept_bit 8 1 e 1 k (omega arith)

  pub kept-closed_entry : bit k (closed_entry e) ≡ bit k e
  unfolding closed_entry
  kept-closed_entry = kept_bit 8 1 (with_field 0 4 e 7) 0 k (omega arith) ∙ kept_bit 0 4 e 7 k (omega arith)

  pub kept-linked_entry : (q : ℕ) → bit k (linked_entry e q) ≡ bit k e
  unfolding linked_entry
  kept-linked_entry q = kept_bit 9 1 (with_field 4 4 e q) 1 k (omega arith) ∙ kept_bit 4 4 e q k (omega arith)

-- ---- an entry stays one of 16 bits

module _ (e : ℕ) (h : e < 2 ^ 16) where
  pub with_priority-lt : (r : ℕ) → with_priority e r < 2 ^ 16
  unfolding with_priority
  with_priority-lt r = with_field-lt 0 4 e r 16 (lit≤ tt) h

  pub bound_entry-lt : bound_entry e < 2 ^ 16
  unfolding bound_entry
  bound_entry-lt = with_field-lt 8 1 e 1 16 (lit≤ tt) h

  pub closed_entry-lt : closed_entry e < 2 ^ 16
  unfolding closed_entry
  closed_entry-lt = with_field-lt 8 1 _ 0 16 (lit≤ tt) (with_field-lt 0 4 e 7 16 (lit≤ tt) h)

  pub linked_entry-lt : (q : ℕ) → linked_entry e q < 2 ^ 16
  unfolding linked_entry
  linked_entry-lt q = with_field-lt 9 1 _ 1 16 (lit≤ tt) (with_field-lt 4 4 e q 16 (lit≤ tt) h)

-- ---- a fresh entry: priority 7, not bound, never linked

pub priority_fresh : priority fresh_entry ≡ 7
unfolding priority field
priority_fresh = refl

pub bound_fresh : bound fresh_entry ≡ false
unfolding bound bit field
bound_fresh = refl

pub ever_linked-fresh : ever_linked fresh_entry ≡ false
unfolding ever_linked bit field
ever_linked-fresh = refl

pub last_queue-fresh : last_queue fresh_entry ≡ 0
unfolding last_queue field
last_queue-fresh = refl

-- ---- 0, which is read where the ledger has no entry: never linked

pub last_queue-zero : last_queue 0 ≡ 0
unfolding last_queue field
last_queue-zero = refl

pub ever_linked-zero : ever_linked 0 ≡ false
unfolding ever_linked bit field
ever_linked-zero = refl

-- ---- how code computes a linked entry: first the last queue, then has been linked

moved : ℕ → ℕ → ℕ
moved e q = e / 256 * 256 + q % 16 * 16 + e % 16

with_queue : (e q : ℕ) → moved e q ≡ with_field 4 4 e q
unfolding with_field moved
with_queue e q = omega arith

with_mark : (m : ℕ) → m / 1024 * 1024 + 512 + m % 512 ≡ with_field 9 1 m 1
unfolding with_field
with_mark m = omega arith

pub linked_digits : (e q : ℕ) → (e / 256 * 256 + q % 16 * 16 + e % 16) / 1024 * 1024 + 512 + (e / 256 * 256 + q % 16 * 16 + e % 16) % 512 ≡ linked_entry e q
unfolding linked_entry moved
linked_digits e q = with_mark (moved e q) ∙ ap (λ (m : ℕ). with_field 9 1 m 1) (with_queue e q)
