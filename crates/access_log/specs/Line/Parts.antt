-- The parts in which code writes a line of six fields.
-- Assumes nothing.
use Rattle.std.specs.Prelude.{ℕ, List, [], ◌∷◌, ◌++◌}
use Rattle.access_log.specs.declared.line.row.Field.{Field}
use Rattle.access_log.specs.declared.line.row.Field.TheVariants.{Dash, Word}
use Rattle.access_log.specs.declared.line.row.Field.TheVariants as field
use Rattle.access_log.specs.declared.line.row.Subject.{Subject}
use Rattle.access_log.specs.declared.line.row.Subject.TheVariants.{Place, Name, Number}
use Rattle.access_log.specs.declared.line.row.Row.{Row}
use Rattle.access_log.specs.Line.{decimal, hex8, dash, tab, newline, side_of, place_of}

unfoldable pub subject_of : Subject → List ℕ
subject_of (Place place) = place_of place
subject_of (Name name) = name.now
subject_of (Number n) = decimal n

unfoldable pub field_of : Field → List ℕ
field_of Dash = dash
field_of (Word word) = hex8 word
field_of (field.Number n) = decimal n

-- each field after its tab, and the newline
unfoldable pub fields_of : List Field → List ℕ
fields_of [] = newline ∷ []
fields_of (f ∷ fs) = tab ∷ (field_of f ++ fields_of fs)

unfoldable pub row_of : Row → List ℕ
row_of r = side_of r.side ++ tab ∷ (r.kind.now ++ tab ∷ (subject_of r.subject ++ fields_of r.fields))
