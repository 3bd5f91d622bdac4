-- The names that a test file gives its columns, and the first that a circuit has otherwise.
use Rattle.std.specs.Prelude.{◌≡◌, ◌≢◌, ◌⊎◌, ⊤, ℕ, ◌+◌, ◌<◌, Bool, true, false, not, ◌==◌}
use Rattle.std.specs.Prelude.{List, [], ◌∷◌, ◌++◌}
use Rattle.std.specs.Prelude.{bytes_eq, codes, filter, length, slice_get, if◌then◌else◌}
use Rattle.std.specs.Prelude.{Option, Some, None, option_and_then, option_map}
use Rattle.std.specs.List.{enumerate_from, flat_map, slice_split}
use Rattle.std.specs.Str.Lines.{strip_carriage_return}
use Rattle.text_lines.specs.Lines.{begins_comment, is_blank, lines}
use Rattle.text_lines.specs.Rows.{without_front}
use Rattle.bench_net.specs.Refusal.{IsAccepted}
use Rattle.bench_net.specs.Scan.{sources}
use Rattle.bench_net.specs.Statement.{Name, Statement}
use Rattle.test_columns.specs.declared.Mismatch.{Mismatch}
use Rattle.test_columns.specs.declared.ColumnFault.{ColumnFault}
use Rattle.test_columns.specs.declared.ColumnFault.TheVariants as fault

-- a word has a byte
abbrev pub is_word : List ℕ → Bool
is_word word = not (length word == 0)

-- the words of some bytes: what blanks separate
abbrev pub words : List ℕ → List (List ℕ)
words bytes = filter is_word (slice_split is_blank bytes)

-- the names after the word `columns:`
abbrev pub names_after : List (List ℕ) → Option (List Name)
names_after [] = None
names_after (word ∷ names) = if bytes_eq word (codes "columns:") then Some names else None

-- the names in a line that begins with a comment
abbrev pub names_from : List ℕ → Option (List Name)
names_from [] = None
names_from (b ∷ comment) = if begins_comment b then names_after (words comment) else None

-- the names of a line, which may begin with blanks
abbrev pub names_in : List ℕ → Option (List Name)
names_in line = names_from (without_front line)

-- a line that has more than blanks
abbrev pub is_written : List ℕ → Bool
is_written line = is_word (without_front line)

-- the lines with more than blanks, each with its number, of a text whose first line has this number
abbrev pub written_from : ℕ → List ℕ → List (ℕ × List ℕ)
written_from first text = filter (λ at. is_written at.1) (enumerate_from first (lines text))

-- the first of them
abbrev pub first_written : List ℕ → Option (ℕ × List ℕ)
first_written text = slice_get (written_from 1 text) 0

-- the columns of a test file: the number of the line that names them, and the names
pub record Columns : Type 0 where
  pub line : ℕ
  pub names : List Name

abbrev pub columns_in : ℕ × List ℕ → Option Columns
columns_in at = option_map (λ names. record { line = at.0; names = names }) (names_in at.1)

-- Its first line with more than blanks names them, if it is a comment whose first word is
-- `columns:`. The other words are the names.
abbrev pub columns : List ℕ → Option Columns
columns text = option_and_then columns_in (first_written text)

-- The line that names columns, with its line feed: a comment of the word `columns:` and the names,
-- each after a space.
abbrev pub columns_line : List Name → List ℕ
columns_line names = codes "# columns:" ++ (flat_map (λ name. 32 ∷ name) names ++ 10 ∷ [])

-- two lists of names differ at this place, from 0, and at none before; one may end there
pub record IsFirstDifference (found expected : List Name) (place : ℕ) : Type 0 where
  pub differ : slice_get found place ≢ slice_get expected place
  pub earlier : (k : ℕ) → k < place → slice_get found k ≡ slice_get expected k

-- The first column, counted from 1, whose name isn't that of the circuit's source at its place, and
-- both names. The sources are the inputs and then the flip-flops, in the order of their lines.
abbrev pub IsMismatch : List Statement → Columns → Mismatch → Type 0
IsMismatch c given m = (place : ℕ) × IsFirstDifference given.names (sources c) place
    × (m.line ≡ given.line) × (m.column ≡ place + 1)
    × (option_map (λ name. name.items) m.found ≡ slice_get given.names place)
    × (option_map (λ name. name.items) m.expected ≡ slice_get (sources c) place)

-- if the test file names its columns, these are the names of the sources
abbrev pub AreInOrder : List ℕ → List ℕ → Type 0
AreInOrder bench text = (c : List Statement) (given : Columns) → IsAccepted bench c
    → columns text ≡ Some given → given.names ≡ sources c

-- the error of the columns of a test file for the circuit of a bench file
abbrev pub IsColumnFault : List ℕ → List ℕ → ColumnFault → Type 0
IsColumnFault bench text (fault.Mismatched m) = (c : List Statement) × (given : Columns)
    × IsAccepted bench c × (columns text ≡ Some given) × IsMismatch c given m
IsColumnFault bench text fault.Memory = ⊤

-- the error of the columns for the sources of a circuit
abbrev pub IsNamesFault : List Statement → Columns → ColumnFault → Type 0
IsNamesFault c given (fault.Mismatched m) = IsMismatch c given m
IsNamesFault c given fault.Memory = ⊤

-- a line, with its line feed, that has nothing but blanks
abbrev pub IsBlankLine : List ℕ → Type 0
IsBlankLine line = (own : List ℕ) × (line ≡ own ++ 10 ∷ [])
    × (is_written (strip_carriage_return own) ≡ false)

-- a line with which a text ends, or, with its line feed, one that has more than blanks
abbrev pub IsLastOfFront : List ℕ → Type 0
IsLastOfFront line = ((own : List ℕ) → line ≢ own ++ 10 ∷ [])
    ⊎ ((own : List ℕ) × (line ≡ own ++ 10 ∷ []) × (is_written (strip_carriage_return own) ≡ true))
