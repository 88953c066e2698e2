-- A number of 64 bits is refused, or not, as the number of 32 bits that stands for it; a number of words reaches as far.
-- Assumes nothing.
use Prim.Native.Nat.{ℕ, ◌≤◌, ◌<◌, ◌%◌, ◌^◌, min, max}
use mathlib.Core.Path.{◌≡◌, refl, sym, ◌∙◌}
use mathlib.Core.Bool.{Bool, true, false, not, ◌&&◌}
use lib.Dec.{eqb, ltb, leb, lit≤}
use borrow.Author.Tests.{ltb-true, ltb-false, lt-ltb, le-ltb, lt-leb, ne_eqb}
use native.Mathlib.Nat.{pow-le-pow_right}
use native.Mathlib.Omega.{arith}
use Rattle.word.specs.Word.{Width, port_at}
use Rattle.calls.specs.declared.types.Answer.TheVariants.{Done}
use Rattle.calls.specs.declared.types.Guest.{Guest}
use Rattle.calls.specs.Records.{is_port}
use Rattle.calls.specs.Hypervisor.{is_offset}
use Rattle.calls.specs.Guest.{guest_answered, with_words, mask_of, tell_of}
use Rattle.calls.specs.ClearMask.{clear_mask_start}
use Rattle.evtchn_fifo.specs.Numbers.{narrow}
use Rattle.evtchn_fifo.specs.Claims.{NarrowNumbers}

-- a test that the greatest number and every greater one answer alike
narrow_by : (test : ℕ → Bool) → ((v : ℕ) → 0xFFFFFFFF ≤ v → test 0xFFFFFFFF ≡ test v) → (v : ℕ) (b : Bool) → ltb v 0xFFFFFFFF ≡ b → test (narrow v) ≡ test v
unfolding narrow
narrow_by test same v true e = rw e
narrow_by test same v false e = rw e (same v (ltb-false v 0xFFFFFFFF e))

alike : (test : ℕ → Bool) → ((v : ℕ) → 0xFFFFFFFF ≤ v → test 0xFFFFFFFF ≡ test v) → (v : ℕ) → test (narrow v) ≡ test v
alike test same v = narrow_by test same v (ltb v 0xFFFFFFFF) refl

and-false : (b : Bool) → b && false ≡ false
and-false true = refl
and-false false = refl

same_reach : (words index : ℕ) → index < 0xFFFFFFFF → leb (narrow words) index ≡ leb words index
same_reach words index h = alike (λ (w : ℕ). leb w index) (λ v l. lt-leb 0xFFFFFFFF index h ∙ sym (lt-leb v index (omega arith))) words

-- the smaller of itself and the greatest of 32 bits
least_by : (v : ℕ) (b : Bool) → ltb v 0xFFFFFFFF ≡ b → narrow v ≡ min v 0xFFFFFFFF
unfolding narrow
least_by v true e = let l = ltb-true v 0xFFFFFFFF e in rw e (omega arith)
least_by v false e = let l = ltb-false v 0xFFFFFFFF e in rw e (omega arith)

least : (v : ℕ) → narrow v ≡ min v 0xFFFFFFFF
least v = least_by v (ltb v 0xFFFFFFFF) refl

pub narrow_twice : (v : ℕ) → narrow (narrow v) ≡ narrow v
narrow_twice v = omega (arith, least v, least (narrow v))

-- a tell's number, where it is known which is the larger
tells_by : (g : Guest) (a b c : ℕ) (t : Bool) → ltb a b ≡ t → c ≡ max a b → tell_of (with_words g a) b ≡ guest_answered (with_words g c) Done
unfolding tell_of
tells_by g a b c true h e = let l = ltb-true a b h in let d : b ≡ c = omega arith in rw (h, d)
tells_by g a b c false h e = let l = ltb-false a b h in let d : a ≡ c = omega arith in rw (h, d)

tells : (g : Guest) (old words : ℕ) → tell_of (with_words g (narrow old)) (narrow words) ≡ guest_answered (with_words g (narrow (max old words))) Done
tells g old words = tells_by g (narrow old) (narrow words) (narrow (max old words)) (ltb (narrow old) (narrow words)) refl (omega (arith, least old, least words, least (max old words)))

-- ---- ports

and_right : (a b : Bool) → a && b ≡ true → b ≡ true
and_right true b e = e
and_right false b e = let z : ◌≡◌ {A = ℕ} 0 1 = cc in absurd (omega arith)

module _ {n : ℕ} (wide : Width n) where
  limit : 2 ^ n ≤ 2 ^ 20
  limit = pow-le-pow_right (lit≤ tt) wide.most

  same_port : (p : ℕ) → is_port n (narrow p) ≡ is_port n p
  unfolding is_port
  same_port =
      let l = limit in
      alike (is_port n) (λ v h. rw (le-ltb 0xFFFFFFFF (2 ^ n) (omega arith), le-ltb v (2 ^ n) (omega arith)) (sym (and-false (not (eqb v 0)))))

  port_small : (p : ℕ) → is_port n p ≡ true → p < 0xFFFFFFFF
  unfolding is_port
  port_small p h = let l = limit in let m = ltb-true p (2 ^ n) (and_right (not (eqb p 0)) _ h) in omega arith

  mask_by : (p words : ℕ) (b : Bool) → is_port n p ≡ b → mask_of n (port_at (narrow p)) (narrow words) ≡ mask_of n (port_at p) words
  unfolding mask_of
  mask_by p words true h =
      let l = port_small p h in
      let e : narrow p ≡ p = least p ∙ omega arith in
      rw (e, same_reach words p l)
  mask_by p words false h = rw (same_port p, h)

  clear_by : (g : Guest) (p : ℕ) (b : Bool) → is_port n p ≡ b → clear_mask_start n g (port_at (narrow p)) ≡ clear_mask_start n g (port_at p)
  unfolding clear_mask_start
  clear_by g p true h =
      let l = port_small p h in
      let e : narrow p ≡ p = least p ∙ omega arith in
      rw e
  clear_by g p false h = rw (same_port p, h)

  pub narrow_numbers : NarrowNumbers n
  unfolding is_offset
  narrow_numbers = record {
    port = same_port;
    priority = alike (ltb 15) (λ v h. sym (lt-ltb 15 v (omega arith)));
    vcpu = alike (λ (v : ℕ). eqb v 0) (λ v h. sym (ne_eqb v 0 (λ e. omega arith)));
    offset = alike is_offset (λ v h. sym (rw (lt-leb v 4024 (omega arith)) (and-false (eqb (v % 8) 0))));
    words = same_reach;
    mask = λ p words. mask_by p words (is_port n p) refl;
    clear_mask_lem = λ g p. clear_by g p (is_port n p) refl;
    tell = tells;
  }
