-- Ends: domain and port are read off the number again, and which ends a table has after a cut and a lay.
-- Assumes nothing.
use Prim.Native.Nat.{ℕ, ◌*◌, ◌+◌, ◌^◌, ◌≤◌, ◌<◌}
use mathlib.Core.Path.{◌≡◌, sym, ap, subst, ◌∙◌}
use mathlib.Core.Bool.{true, false, not, true≢false}
use mathlib.Core.List.{List}
use mathlib.Core.Logic.{◌⊎◌, inl, inr, ◌≢◌}
use native.Mathlib.Nat.{pow-le-pow_right}
use native.Mathlib.Omega.{arith}
use borrow.Author.Tests.{ltb-true, lt-ltb, ne_eqb, eqb-false}
use lib.Dec.{eqb, ltb, lit≤}
use Rattle.calls.specs.Records.{port_limit, is_port}
use Rattle.queue.proofs.Cases.{and_both}
use Rattle.cables.specs.Table.{Slot, slot, domain_limit, end, domain_of, port_of, is_end, holds, has, slot_of, lowest_with, taken, laid_at, cut_at}
use Rattle.cables.proofs.Tables.{has_holds, has_either, has_taken_lem, taken_has, cut_gone, cut_had, Laid, new, old, laid_slot, table_claims}

module _ (d p : ℕ) (few : d < domain_limit) (small : p < 0x100000) where
  end_is : end d p ≡ d * 0x100000 + p
  unfolding end
  end_is = rw (lt-ltb d domain_limit few, lt-ltb p 0x100000 small)

  pub domain_of_end : domain_of (end d p) ≡ d
  unfolding domain_of
  domain_of_end = rw end_is (omega arith)

  pub port_of_end : port_of (end d p) ≡ p
  unfolding port_of
  port_of_end = rw end_is (omega arith)

end_again : (e : ℕ) → is_end e ≡ true → end (domain_of e) (port_of e) ≡ e
unfolding is_end domain_of port_of
end_again e h =
    let few = ltb-true (domain_of e) domain_limit (and_both (ltb (domain_of e) domain_limit) (not (eqb (port_of e) 0)) h).0 in
    end_is (domain_of e) (port_of e) few (omega arith) ∙ omega arith

-- ends of two domains
pub ends_apart : (d p e q : ℕ) → d < domain_limit → p < 0x100000 → e < domain_limit → q < 0x100000 → eqb d e ≡ false →
    eqb (end d p) (end e q) ≡ false
ends_apart d p e q few small few' small' apart =
    ne_eqb (end d p) (end e q)
    (λ k. eqb-false d e apart (sym (domain_of_end d p few small) ∙ ap domain_of k ∙ domain_of_end e q few' small'))

-- a port has room in an end
pub port_small : (n p : ℕ) → n ≤ 20 → is_port n p ≡ true → p < 0x100000
unfolding is_port
port_small n p most h =
    let l : 2 ^ n ≤ 2 ^ 20 = pow-le-pow_right (lit≤ tt) most in
    omega (arith, ltb-true p (port_limit n) (and_both (not (eqb p 0)) (ltb p (port_limit n)) h).1)

-- ---- a table's ends

both_ends : (s : Slot) → holds s ≡ true → (is_end s.one ≡ true) × (is_end s.two ≡ true)
unfolding holds
both_ends s h = and_both (is_end s.one) (is_end s.two) h

taken_end : (t : List Slot) (e : ℕ) → taken t e ≡ true → is_end e ≡ true
taken_end t e h = go (has_either s e k)
  where
    s : Slot
    s = slot_of t (lowest_with t e)

    k : has s e ≡ true
    k = taken_has t e h

    go : (s.one ≡ e) ⊎ (s.two ≡ e) → is_end e ≡ true
    go (inl x) = subst (λ (z : ℕ). is_end z ≡ true) x (both_ends s (has_holds s e k)).0
    go (inr x) = subst (λ (z : ℕ). is_end z ≡ true) x (both_ends s (has_holds s e k)).1

pub taken_again : (t : List Slot) (e : ℕ) → taken t e ≡ true → end (domain_of e) (port_of e) ≡ e
taken_again t e h = end_again e (taken_end t e h)

-- after a cut: no new one, and not the one that was cut
pub cut_taken : (t : List Slot) (x e : ℕ) → taken (cut_at t x) e ≡ true → (taken t e ≡ true) × (e ≢ x)
cut_taken t x e h =
    let i = lowest_with (cut_at t x) e in
    let had = cut_had (slot_of t i) x e (rw (table_claims.cut_slots t x i) at (taken_has (cut_at t x) e h)) in
    (has_taken_lem t e i had, λ k. true≢false (sym (rw k at h) ∙ cut_gone t x))

-- after a lay: only the cable's own two are new
pub laid_taken : (t : List Slot) (a b e : ℕ) → taken (laid_at t a b) e ≡ true → (taken t e ≡ true) ⊎ ((a ≡ e) ⊎ (b ≡ e))
laid_taken t a b e h = go (laid_slot t a b i) (taken_has (laid_at t a b) e h)
  where
    i : ℕ
    i = lowest_with (laid_at t a b) e

    go : Laid t a b i → has (slot_of (laid_at t a b) i) e ≡ true → (taken t e ≡ true) ⊎ ((a ≡ e) ⊎ (b ≡ e))
    go (new k x) l = inr (has_either (slot a b) e (rw x at l))
    go (old x) l = inl (has_taken_lem t e i (rw x at l))
