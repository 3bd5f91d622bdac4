-- The statements of a text, each with the number of its line, and the stored lines that stand for
-- them.
use Rattle.std.specs.Prelude.{◌≡◌, ◌⊎◌, ◌<◌, ◌≤◌, ℕ, suc, Bool, length, List, [], ◌∷◌, map}
use Rattle.std.specs.Prelude.{flat_map, min, ◌++◌}
use Rattle.std.specs.Prelude.{Option, Some, None, bytes_eq}
use Rattle.std.specs.List.{All, AllZip, list_any}
use Rattle.bench_net.specs.declared.BenchFault.{BenchFault}
use Rattle.bench_net.specs.declared.BenchFault.TheVariants.{Memory}
use Rattle.bench_net.specs.declared.Limit.{Limit}
use Rattle.bench_net.specs.declared.read.Counts.{Counts}
use Rattle.bench_net.specs.declared.Limit.TheVariants.{Bytes, Signals, Sinks}
use Rattle.bench_net.specs.Circuit.{max_signals, max_sinks}
use Rattle.bench_net.specs.declared.line.NumberedLine.{NumberedLine}
use Rattle.bench_net.specs.Stored.{name_at, statement_of, statements_of}
use Rattle.bench_net.specs.Stored.{defined_numbers, read_numbers, numbers}
use Rattle.bench_net.specs.declared.number.StatedLine.{StatedLine}
use Rattle.bench_net.specs.Statement.{Name, Statement, defined, read}
use Rattle.bench_net.specs.Reading.{States}
use Rattle.bench_net.specs.Refusal.{IsWithin, IsRefused}
use Rattle.bench_net.specs.reader.Parsed.{stands_for}

-- a statement beside the number of its line
abbrev pub Entry : Type 0
Entry = ℕ × Statement

abbrev pub entry_of : StatedLine → Entry
entry_of line = (line.number, stands_for line.statement)

abbrev pub entries_of : List StatedLine → List Entry
entries_of lines = map entry_of lines

-- the entries of the stated lines, if the first line has this number
abbrev pub numbered_from : ℕ → List (Option Statement) → List Entry
numbered_from line [] = []
numbered_from line (None ∷ stated) = numbered_from (suc line) stated
numbered_from line (Some s ∷ stated) = (line, s) ∷ numbered_from (suc line) stated

-- the entries are all that these lines state, if the first line has this number
pub record AreStatedFrom (first : ℕ) (lines : List (List ℕ)) (entries : List Entry) : Type 0 where
  pub stated : List (Option Statement)
  pub each : AllZip States lines stated
  pub same : entries ≡ numbered_from first stated

abbrev pub AreStated : List (List ℕ) → List Entry → Type 0
AreStated lines entries = AreStatedFrom 1 lines entries

-- the lines are all that the text states, and it is within the limits
pub record AreWithin (text : List ℕ) (lines : List StatedLine) : Type 0 where
  pub stated : List (Option Statement)
  pub within : IsWithin text stated
  pub same : entries_of lines ≡ numbered_from 1 stated

-- an error is the file's, or memory ran out
abbrev pub MayBe : List ℕ → BenchFault → Type 0
MayBe text fault = (fault ≡ Memory) ⊎ IsRefused text fault

-- and so for each text that states these lines
abbrev pub MayBeOf : List StatedLine → BenchFault → Type 0
MayBeOf lines fault = (text : List ℕ) → AreWithin text lines → MayBe text fault

-- whether a name is one of these
abbrev pub is_in : List Name → Name → Bool
is_in ns n = list_any (bytes_eq n) ns

-- the statements of lines
abbrev pub statements_in : List StatedLine → List Statement
statements_in lines = map (λ line. stands_for line.statement) lines

-- the names that a line defines, and the names that it reads
abbrev pub defined_of : StatedLine → List Name
defined_of line = defined (stands_for line.statement)

abbrev pub read_of : StatedLine → List Name
read_of line = read (stands_for line.statement)

-- the names that lines define, in order, and the names that they read
abbrev pub names_in : List StatedLine → List Name
names_in lines = flat_map defined_of lines

abbrev pub reads_in : List StatedLine → List Name
reads_in lines = flat_map read_of lines

-- the numbers of these names and reads, as far as a count goes
abbrev pub AreCounts : List Name → List Name → Counts → Type 0
AreCounts names reads counts = (counts.signals ≡ min (length names) 18446744073709551615)
    × (counts.sinks ≡ min (length reads) 18446744073709551615)

-- these numbers of names and reads are within the limits on signals and sinks, or past one of them
abbrev pub AreFew : ℕ → ℕ → Type 0
AreFew signals sinks = (signals ≤ max_signals) × (sinks ≤ max_sinks)

abbrev pub ArePast : ℕ → ℕ → Limit → Type 0
ArePast signals sinks Bytes = ⊥
ArePast signals sinks Signals = max_signals < signals
ArePast signals sinks Sinks = (signals ≤ max_signals) × (max_sinks < sinks)

-- these names stand one after another from a number on
abbrev pub AreNamesFrom : List Name → ℕ → List Name → Type 0
AreNamesFrom ns first own = (before after : List Name) × (ns ≡ before ++ (own ++ after))
    × (length before ≡ first)

-- the number is the number of the name that the statement defines, if it defines one
abbrev pub IsNextFor : List Name → ℕ → Statement → Type 0
IsNextFor ns next s = map (λ n. name_at ns next) (defined s) ≡ defined s

-- the stored line stands for the statement, whose own name has this number
pub record IsNumberedLine (ns : List Name) (next : ℕ) (s : Statement) (line : NumberedLine) : Type 0
  where
    pub stands : statement_of ns line ≡ s
    pub own : defined_numbers line ≡ map (λ n. next) (defined s)
    pub in_range : All (λ number. number < length ns) (read_numbers line)

-- the stored lines stand for the statements of these lines, and each number has a name
pub record AreNumberedLines (ns : List Name) (stated : List StatedLine)
    (lines : List NumberedLine) : Type 0 where
  pub stand : statements_of ns lines ≡ statements_in stated
  pub in_range : All (λ number. number < length ns) (flat_map numbers lines)
