-- Numbers written one after another, said of the whole.
-- Assumes nothing.
use Prim.Native.Nat.{ℕ, suc, ◌+◌, ◌*◌, ◌<◌}
use mathlib.Core.Path.{◌≡◌, refl, ap, ◌∙◌}
use mathlib.Core.List.{List, [], ◌∷◌, ◌++◌}
use lib.ListN.{length, get_or, take}
use native.Mathlib.Omega.{arith}
use Rattle.std.proofs.lemmas.List.{take_more, length-take-le}
use Rattle.evtchn_fifo.specs.Numbers.{put_number, put_numbers}

-- one number more
puts_more : (l : List ℕ) (k : ℕ) (s : List ℕ) (i v : ℕ) → put_numbers k s i (l ++ (v ∷ [])) ≡ put_number k (put_numbers k s i l) (i + length l * suc k) v
unfolding put_numbers
puts_more [] k s i v = ap (λ (at : ℕ). put_number k s at v) (omega arith)
puts_more (x ∷ l) k s i v = puts_more l k (put_number k s i x) (i + suc k) v ∙ ap (λ (at : ℕ). put_number k (put_numbers k (put_number k s i x) (i + suc k) l) at v) (omega arith)

pub number_more : (s : List ℕ) (base q : ℕ) (l : List ℕ) → q < length l → put_numbers 3 s base (take (q + 1) l) ≡ put_number 3 (put_numbers 3 s base (take q l)) (base + q * 4) (get_or l q 0)
number_more s base q l h =
    let n : length (take q l) ≡ q = length-take-le q l (omega arith) in
    rw (take_more l q 0 h) (puts_more (take q l) 3 s base (get_or l q 0) ∙ ap (λ (m : ℕ). put_number 3 (put_numbers 3 s base (take q l)) (base + m * 4) (get_or l q 0)) n)

pub no_number : (s : List ℕ) (base : ℕ) (l : List ℕ) → put_numbers 3 s base (take 0 l) ≡ s
unfolding put_numbers
no_number s base l = refl
