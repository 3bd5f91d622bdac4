-- The statements of a part of a file's lines, as a thread returns them.
use Rattle.std.specs.Prelude.{◌≡◌, ◌≢◌, ℕ, ◌+◌, ◌≤◌, List, map, filter, flat_map, length, take}
use Rattle.std.specs.Prelude.{AllPairs, Result, Some, IfOk, slice_get, count_by}
use Rattle.std.specs.List.{All, slice_range}
use Rattle.text_lines.specs.Lines.{lines, ends_line}
use Rattle.text_lines.specs.Starts.{IsLineStart}
use Rattle.bench_net.specs.declared.BenchFault.{BenchFault}
use Rattle.bench_net.specs.declared.number.StatedLine.{StatedLine}
use Rattle.bench_net.specs.Statement.{Name, defines}
use Rattle.bench_net.specs.reader.Parsed.{stands_for}
use Rattle.bench_net.specs.declared.read.Counts.{Counts}
use Rattle.bench_net.specs.reader.Entries.{AreCounts, AreFew, AreNumberedLines, AreStated}
use Rattle.bench_net.specs.reader.Entries.{AreStatedFrom, entries_of, names_in, reads_in}
use Rattle.bench_threads.specs.declared.stretch.Stretch.{Stretch}
use Rattle.bench_threads.specs.declared.stretch.Numbered.{Numbered}

-- the number of the line that begins at a place, from 1
abbrev pub line_at : List ℕ → ℕ → ℕ
line_at text place = 1 + count_by ends_line (take place text)

-- the statements of the file from one place to another, at which a line begins
pub record AreStatedBetween (text : List ℕ) (start end : ℕ) (stated : List StatedLine) : Type 0
  where
    pub order : start ≤ end
    pub until : IsLineStart text end
    pub are : AreStatedFrom (line_at text start) (lines (slice_range text start end))
        (entries_of stated)

-- the numbers of a stretch are those of its names
abbrev pub IsCounted : Stretch → Type 0
IsCounted own = AreCounts (names_in own.stated.items) (reads_in own.stated.items) own.counts

abbrev pub AreCounted : List Stretch → Type 0
AreCounted stretches = All IsCounted stretches

-- the result of a thread has such statements, and their numbers, unless its lines have an error
abbrev pub HasStretch : List ℕ → Result Stretch BenchFault → Type 0
HasStretch text part =
    IfOk part (λ own. AreStatedBetween text own.start own.end own.stated.items × IsCounted own)

-- lines of the file from one place to another, and the number of the lines before them
pub record IsRange (text : List ℕ) (start end before : ℕ) : Type 0 where
  pub order : start ≤ end
  pub until : IsLineStart text end
  pub count : before ≡ count_by ends_line (take start text)

-- the statements of stretches, one after another
abbrev pub joined : List Stretch → List StatedLine
joined stretches = flat_map (λ own. own.stated.items) stretches

-- the stretches of the file up to a place, the names that they define, and the numbers of the names
-- that they define and read, which are within the limits
pub record AreFirst (text : List ℕ) (end : ℕ) (stretches : List Stretch) (ns : List Name)
    (counts : Counts) : Type 0 where
  pub start : IsLineStart text end
  pub stated : AreStated (lines (take end text)) (entries_of (joined stretches))
  pub counted : AreCounted stretches
  pub numbers : AreCounts (names_in (joined stretches)) (reads_in (joined stretches)) counts
  pub few : AreFew (length (names_in (joined stretches))) (length (reads_in (joined stretches)))
  pub names : ns ≡ names_in (joined stretches)
  pub once : AllPairs (λ m n. m ≢ n) ns

-- the numbers of the lines that define a name
abbrev pub line_numbers_in : List StatedLine → List ℕ
line_numbers_in stated =
    map (λ line. line.number) (filter (λ line. defines (stands_for line.statement)) stated)

-- the lines over numbers of the stretch at a place
pub record AreOfStretch (ns : List Name) (stretches : List Stretch) (place : ℕ) (own : Numbered)
    : Type 0 where
  pub stretch : Stretch
  pub is : slice_get stretches place ≡ Some stretch
  pub numbered : AreNumberedLines ns stretch.stated.items own.lines.items
  pub at : own.at.items ≡ line_numbers_in stretch.stated.items

-- the result of a thread has such lines, unless they have an error
abbrev pub HasNumbered : List Name → List Stretch → ℕ → Result Numbered BenchFault → Type 0
HasNumbered ns stretches place part = IfOk part (AreOfStretch ns stretches place)
