-- The ledger in bytes is the ledger of `calls`.
-- Assumes nothing.
use Prim.Native.Nat.{ℕ, zero, suc, ◌+◌, ◌*◌, ◌<◌, ◌≤◌}
use mathlib.Core.Path.{◌≡◌, refl, sym, ap, ◌∙◌}
use mathlib.Core.Bool.{Bool, true, false}
use mathlib.Core.List.{List}
use native.Mathlib.Numerals.{add-one}
use mathlib.Core.Logic.{⊎_elim}
use native.Mathlib.Nat.{eq-or-lt_of_le, zero-add}
use native.Mathlib.Omega.{arith}
use borrow.Author.Tests.{ltb-true, ltb-false}
use lib.ListN.{length, get_or, set, replicate, length-replicate, get_or-replicate}
use lib.Seq.{ext_get_or, set_out}
use lib.Dec.{ltb}
use Rattle.calls.specs.Records.{entry_at}
use Rattle.evtchn_fifo.specs.Numbers.{number_at, put_number, numbers_at}
use Rattle.evtchn_fifo.specs.Ledger.{entries, ledger_at, entry_in, put_entry, fill_entries}
use Rattle.evtchn_fifo.proofs.NumberLaws.{length_put, same, before, numbers_length, number_in_lem, number_set}

-- an entry's place
entry_at_lem : (n : ℕ) (t : List ℕ) (p : ℕ) → p < n → get_or (numbers_at 1 t 0 n) p 0 ≡ number_at 1 t (p * 2)
entry_at_lem n t p h = number_in_lem n 1 t 0 p h ∙ ap (number_at 1 t) (zero-add (p * 2))

entry_set : (n : ℕ) (t : List ℕ) (p e : ℕ) → p < n → n * 2 ≤ length t → numbers_at 1 (put_number 1 t (p * 2) e) 0 n ≡ set (numbers_at 1 t 0 n) p e
entry_set n t p e h l = ap (λ (i : ℕ). numbers_at 1 (put_number 1 t i e) 0 n) (sym (zero-add (p * 2))) ∙ number_set n 1 t 0 p e h (omega arith)

entry_by : (t : List ℕ) (p : ℕ) (b : Bool) → ltb p (entries t) ≡ b → entry_in t p ≡ entry_at (ledger_at t) p
unfolding entry_in entry_at
entry_by t p true e = rw (numbers_length (entries t) 1 t 0, e, entry_at_lem (entries t) t p (ltb-true p (entries t) e))
entry_by t p false e = rw (numbers_length (entries t) 1 t 0, e)

-- an entry read
pub entry_is : (t : List ℕ) (p : ℕ) → entry_in t p ≡ entry_at (ledger_at t) p
entry_is t p = entry_by t p (ltb p (entries t)) refl

put_by : (t : List ℕ) (p e : ℕ) (b : Bool) → ltb p (entries t) ≡ b → ledger_at (put_entry t p e) ≡ set (ledger_at t) p e
unfolding put_entry
put_by t p e true h = rw (h, length_put 1 t (p * 2) e) (entry_set (entries t) t p e (ltb-true p (entries t) h) (omega arith))
put_by t p e false h = rw (h, set_out (ledger_at t) p e (rw (numbers_length (entries t) 1 t 0) (ltb-false p (entries t) h)))

-- an entry written
pub put_is : (t : List ℕ) (p e : ℕ) → ledger_at (put_entry t p e) ≡ set (ledger_at t) p e
put_is t p e = put_by t p e (ltb p (entries t)) refl

-- one more entry filled
pub fill_more : (t : List ℕ) (p e : ℕ) {l m : List ℕ} → l ≡ fill_entries p t e → m ≡ put_number 1 l (p * 2) e → m ≡ fill_entries (p + 1) t e
unfolding fill_entries
fill_more t p e a b = rw (b, a, add-one p)

length_fill : (n : ℕ) (t : List ℕ) (e : ℕ) → length (fill_entries n t e) ≡ length t
unfolding fill_entries
length_fill zero t e = refl
length_fill (suc n) t e = length_put 1 (fill_entries n t e) (n * 2) e ∙ length_fill n t e

filled : (n : ℕ) (t : List ℕ) (e p : ℕ) → p < n → n ≤ entries t → number_at 1 (fill_entries n t e) (p * 2) ≡ e
unfolding fill_entries
filled zero t e p a b = omega arith
filled (suc n) t e p a b =
    ⊎_elim
    (λ (x : p ≡ n). rw x (same 1 (fill_entries n t e) (n * 2) e (rw (length_fill n t e) (omega arith))))
    (λ (x : p < n). before 1 1 (fill_entries n t e) (n * 2) e (p * 2) (omega arith) ∙ filled n t e p x (omega arith))
    (eq-or-lt_of_le {n = p} {m = n} (omega arith))

-- the ledger after a fill
pub fill_is : (t : List ℕ) (e : ℕ) → ledger_at (fill_entries (entries t) t e) ≡ replicate (entries t) e
fill_is t e =
    let m = entries t in
    let l = fill_entries m t e in
    rw (length_fill m t e)
    (ext_get_or 0 (numbers_at 1 l 0 m) (replicate m e) (numbers_length m 1 l 0 ∙ sym (length-replicate m e))
    (λ i h.
    let b : i < m = rw (numbers_length m 1 l 0) at h in
    entry_at_lem m l i b ∙ filled m t e i b (omega arith) ∙ sym (get_or-replicate m i e 0 b)))
