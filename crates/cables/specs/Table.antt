-- The table of cables: slots of two numbers. A slot holds a cable exactly if both numbers are ends; any other is free, whatever it has.
-- Assumes nothing.
use Rattle.std.specs.Prelude.{ℕ, suc, ◌+◌, ◌*◌, ◌/◌, ◌%◌, ◌≡◌, Bool, true, false, cond, not, ◌&&◌, ◌||◌, List, [], ◌∷◌, map, length, get_or, set, eqb, ltb}

-- ---- ends

-- the domains that can have cables, and the cables that a table holds
abbrev pub domain_limit : ℕ
domain_limit = 40

abbrev pub slot_count : ℕ
slot_count = 1024

-- an end is a domain's number and a port in one number, with room for twenty bits of port; 0 is none
unfoldable pub end : ℕ → ℕ → ℕ
end d p = cond (ltb d domain_limit && ltb p 0x100000) (d * 0x100000 + p) 0

unfoldable pub domain_of : ℕ → ℕ
domain_of e = e / 0x100000

unfoldable pub port_of : ℕ → ℕ
port_of e = e % 0x100000

-- a domain below forty, and a port that is not 0
unfoldable pub is_end : ℕ → Bool
is_end e = ltb (domain_of e) domain_limit && not (eqb (port_of e) 0)

-- ---- slots

pub record Slot : Type 0 where
  pub one : ℕ
  pub two : ℕ

abbrev pub slot : ℕ → ℕ → Slot
slot a b = record { one = a; two = b }

abbrev pub empty : Slot
empty = slot 0 0

unfoldable pub holds : Slot → Bool
holds s = is_end s.one && is_end s.two

unfoldable pub has : Slot → ℕ → Bool
has s e = holds s && (eqb s.one e || eqb s.two e)

unfoldable pub other : Slot → ℕ → ℕ
other s e = cond (eqb s.one e) s.two s.one

-- ---- tables

abbrev pub slot_of : List Slot → ℕ → Slot
slot_of t i = get_or t i empty

-- the index of the lowest slot that passes a test; their number where none does
unfoldable pub lowest : (Slot → Bool) → List Slot → ℕ
lowest f [] = 0
lowest f (s ∷ t) = cond (f s) 0 (suc (lowest f t))

abbrev pub lowest_with : List Slot → ℕ → ℕ
lowest_with t e = lowest (λ s. has s e) t

abbrev pub lowest_free : List Slot → ℕ
lowest_free t = lowest (λ s. not (holds s)) t

-- an end of some cable; room for one more
abbrev pub taken : List Slot → ℕ → Bool
taken t e = ltb (lowest_with t e) (length t)

abbrev pub has_space : List Slot → Bool
has_space t = ltb (lowest_free t) (length t)

-- look-up: the hinted slot if it has the end, else the lowest that has it
unfoldable pub find : List Slot → ℕ → ℕ → ℕ
find t hint e = cond (has (slot_of t hint) e) hint (lowest_with t e)

-- the end at the other side
abbrev pub across : List Slot → ℕ → ℕ → ℕ
across t hint e = other (slot_of t (find t hint e)) e

-- a cable takes the lowest free slot
abbrev pub laid_at : List Slot → ℕ → ℕ → List Slot
laid_at t a b = set t (lowest_free t) (slot a b)

-- every slot that has the end becomes free
abbrev pub cut_slot : ℕ → Slot → Slot
cut_slot e s = cond (has s e) empty s

abbrev pub cut_at : List Slot → ℕ → List Slot
cut_at t e = map (cut_slot e) t

-- each end belongs to at most one cable
pub record Single (t : List Slot) : Type 0 where
  pub slots : (e i j : ℕ) → has (slot_of t i) e ≡ true → has (slot_of t j) e ≡ true → i ≡ j
  pub ends : (i : ℕ) → holds (slot_of t i) ≡ true → eqb (slot_of t i).one (slot_of t i).two ≡ false
