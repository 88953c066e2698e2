-- A script's names: the letters by which a word is known, and its place in a list of names with a blank between them.
-- Assumes nothing.
use Rattle.std.specs.Prelude.{ℕ, ◌+◌, ◌-◌, Bool, List, ◌==◌, drop, length, Option}
use Rattle.std.specs.List.{slice_split, position}
use Rattle.std.specs.Option.{option_map}
use Rattle.std.specs.Str.{bytes_eq}
use Prim.Native.Char.{code}

-- a word is known by its last eight letters
abbrev pub name_of : List ℕ → List ℕ
name_of word = drop (length word - 8) word

abbrev pub same_name : List ℕ → List ℕ → Bool
same_name a b = bytes_eq (name_of a) (name_of b)

abbrev pub is_blank : ℕ → Bool
is_blank byte = byte == (code " ")

-- 1 for the first, none for a word that the list lacks
abbrev pub place_of : List ℕ → List ℕ → Option ℕ
place_of word list = option_map (λ at. at + 1) (position (λ name. same_name name word) (slice_split is_blank list))
