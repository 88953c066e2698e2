-- The reader and the writer agree each way on every legal line.
-- Assumes nothing.
use Rattle.std.specs.Prelude.{ℕ, ◌≤◌, ◌<◌, ◌^◌, ◌≡◌, ◌≢◌, List, length, None, Some}
use Rattle.machine.specs.declared.types.Side.TheVariants.{Hypervisor}
use Rattle.access_log.specs.declared.line.Line.{Line}
use Rattle.access_log.specs.Line.{ascii, dash, decimal, row, bytes_of, Legal}
use Rattle.access_log.specs.Read.{read_line}

-- what is written of a legal line reads back as that line
abbrev pub WrittenReads : Type 0
WrittenReads = (l : Line) → Legal l → read_line (bytes_of l) ≡ Some l

-- what reads as a line is a legal line, and that line's bytes
abbrev pub ReadWrites : Type 0
ReadWrites = (s : List ℕ) (l : Line) → read_line s ≡ Some l → Legal l × (bytes_of l ≡ s)

-- a text that is no legal line's bytes is refused
abbrev pub OthersRefused : Type 0
OthersRefused = (s : List ℕ) → ((l : Line) → Legal l → bytes_of l ≢ s) → read_line s ≡ None

-- no line is longer than this, whatever is in it
abbrev pub Longest : Type 0
Longest = (l : Line) → length (bytes_of l) ≤ 53

-- a bind's line with any text for its port is of the form exactly if the text is a decimal below 2 ^ 32
pub record IsDecimal (text : List ℕ) : Type 0 where
  pub number : ℕ
  pub below : number < 2 ^ 32
  pub digits : decimal number ≡ text

abbrev pub bind_line : List ℕ → List ℕ
bind_line text = row Hypervisor (ascii "call") (ascii "bind") text dash dash

abbrev pub DecimalReads : Type 0
DecimalReads = (text : List ℕ) (l : Line) → read_line (bind_line text) ≡ Some l → IsDecimal text

pub record Agree : Type 0 where
  pub written_reads : WrittenReads
  pub read_writes : ReadWrites
  pub others_refused : OthersRefused
  pub longest : Longest
  pub decimal_reads : DecimalReads
