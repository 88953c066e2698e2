-- A number among other bytes: in the front of a list, behind its front, and an entry's two bytes in a ledger.
-- Assumes nothing.
use Prim.Native.Nat.{ℕ, zero, suc, ◌+◌, ◌/◌, ◌%◌, ◌≤◌}
use mathlib.Core.Path.{◌≡◌, refl, sym, ap, ◌∙◌}
use mathlib.Core.List.{List, ◌++◌}
use lib.ListN.{length, get_or, set, length-set, take, drop}
use native.Mathlib.Omega.{arith}
use Rattle.std.proofs.lemmas.List.{get_or_append_left, get_or-append_right, set-append_left, set-append_right, take-append-drop, length-take-le, length-drop}
use Rattle.evtchn_fifo.specs.Numbers.{number_at, put_number}

pub number_front : (k : ℕ) (a b : List ℕ) (i : ℕ) → i + suc k ≤ length a → number_at k (a ++ b) i ≡ number_at k a i
unfolding number_at
number_front zero a b i h = get_or_append_left a b 0 i (omega arith)
number_front (suc k) a b i h = rw (get_or_append_left a b 0 i (omega arith), number_front k a b (i + 1) (omega arith))

pub put_front : (k : ℕ) (a b : List ℕ) (i v : ℕ) → i + suc k ≤ length a → put_number k (a ++ b) i v ≡ put_number k a i v ++ b
unfolding put_number
put_front zero a b i v h = set-append_left a b i v (omega arith)
put_front (suc k) a b i v h = rw (set-append_left a b i (v % 256) (omega arith)) (put_front k (set a i (v % 256)) b (i + 1) (v / 256) (rw (length-set a i (v % 256)) (omega arith)))

number_behind : (k : ℕ) (a b : List ℕ) (i j : ℕ) → i ≡ length a + j → number_at k (a ++ b) i ≡ number_at k b j
unfolding number_at
number_behind zero a b i j e = get_or-append_right a b (length a) i 0 refl (omega arith) ∙ ap (λ (m : ℕ). get_or b m 0) (omega arith)
number_behind (suc k) a b i j e =
    let f : get_or (a ++ b) i 0 ≡ get_or b j 0 = get_or-append_right a b (length a) i 0 refl (omega arith) ∙ ap (λ (m : ℕ). get_or b m 0) (omega arith) in
    rw (f, number_behind k a b (i + 1) (j + 1) (omega arith))

put_behind : (k : ℕ) (a b : List ℕ) (i j v : ℕ) → i ≡ length a + j → put_number k (a ++ b) i v ≡ a ++ put_number k b j v
unfolding put_number
put_behind zero a b i j v e = set-append_right a b (length a) i v refl (omega arith) ∙ ap (λ (m : ℕ). a ++ set b m v) (omega arith)
put_behind (suc k) a b i j v e =
    let f : set (a ++ b) i (v % 256) ≡ a ++ set b j (v % 256) = set-append_right a b (length a) i (v % 256) refl (omega arith) ∙ ap (λ (m : ℕ). a ++ set b m (v % 256)) (omega arith) in
    rw f (put_behind k a (set b j (v % 256)) (i + 1) (j + 1) (v / 256) (omega arith))

-- ---- the two bytes at a place

parts : (t : List ℕ) (at : ℕ) → take at t ++ (take 2 (drop at t) ++ drop 2 (drop at t)) ≡ t
parts t at = rw (take-append-drop 2 (drop at t), take-append-drop at t)

pub entry_among : (t : List ℕ) (at : ℕ) → at + 2 ≤ length t → number_at 1 (take 2 (drop at t)) 0 ≡ number_at 1 t at
entry_among t at h =
    let front : length (take at t) ≡ at = length-take-le at t (omega arith) in
    let two : length (take 2 (drop at t)) ≡ 2 = length-take-le 2 (drop at t) (omega (arith, length-drop at t)) in
    let e = number_behind 1 (take at t) (take 2 (drop at t) ++ drop 2 (drop at t)) at 0 (omega arith) in
    sym (number_front 1 (take 2 (drop at t)) (drop 2 (drop at t)) 0 (omega arith)) ∙ sym e ∙ ap (λ (l : List ℕ). number_at 1 l at) (parts t at)

pub put_entry_among : (t : List ℕ) (at v : ℕ) → at + 2 ≤ length t → take at t ++ (put_number 1 (take 2 (drop at t)) 0 v ++ drop 2 (drop at t)) ≡ put_number 1 t at v
put_entry_among t at v h =
    let front : length (take at t) ≡ at = length-take-le at t (omega arith) in
    let two : length (take 2 (drop at t)) ≡ 2 = length-take-le 2 (drop at t) (omega (arith, length-drop at t)) in
    let e = put_behind 1 (take at t) (take 2 (drop at t) ++ drop 2 (drop at t)) at 0 v (omega arith) in
    ap (λ (l : List ℕ). take at t ++ l) (sym (put_front 1 (take 2 (drop at t)) (drop 2 (drop at t)) 0 v (omega arith))) ∙ sym e ∙ ap (λ (l : List ℕ). put_number 1 l at v) (parts t at)
