-- The texts of the report and of the listing.
use Rattle.std.specs.Prelude.{ℕ, ◌+◌, ◌*◌, ◌/◌, ◌%◌, Bool, true, false, List, [], ◌∷◌, ◌++◌}
use Rattle.std.specs.Prelude.{length, map, zip, flat_map, Option, Some, None, if◌then◌else◌}
use Rattle.std.specs.Prelude.{is_none, slice_get, slice_index_or, unwrap_or, codes, decimal}
use Rattle.std.specs.List.{slice_range}
use Rattle.bench_net.specs.Statement.{Statement}
use Rattle.bench_net.specs.Scan.{name_of, cells}
use Rattle.fault_model.specs.declared.Line.{Line}
use Rattle.fault_model.specs.declared.Line.TheVariants.{Stem, Pin, Data, Out}
use Rattle.fault_model.specs.declared.Model.{Model}
use Rattle.fault_model.specs.declared.Model.TheVariants.{StuckAt, Transition, TransitionPairs}
use Rattle.fault_model.specs.Fault.{Fault, faults}
use Rattle.fault_model.specs.Collapse.{Collapsed}
use Rattle.workers.specs.Verdict.{detected_count}
use Rattle.report.specs.declared.contents.Contents.{Contents}
use Rattle.report.specs.declared.contents.Lines.{Lines}
use Rattle.report.specs.declared.contents.Lines.TheVariants.{Omitted, All, Undetected}

-- the contents of a report with the list of faults, and of one without: the lines of all faults, or
-- none, and the coverage of the faults
abbrev pub contents_of : Bool → Contents
contents_of list = record { lines = if list then All else Omitted; classes = false }

-- the name of a signal, and of the cell of this number
abbrev pub signal_text : List Statement → ℕ → List ℕ
signal_text c s = unwrap_or (name_of c s) []

abbrev pub cell_text : List Statement → ℕ → List ℕ
cell_text c cell = unwrap_or (slice_get (map (λ qd. qd.0) (cells c)) cell) []

-- a line: `stem NAME`, `pin GATE K`, `data Q` or `out J`, where K and J count from 1
abbrev pub line_text : List Statement → Line → List ℕ
line_text c (Stem s) = codes "stem " ++ signal_text c s
line_text c (Pin gate pin) = codes "pin " ++ signal_text c gate ++ codes " " ++ decimal (pin + 1)
line_text c (Data cell) = codes "data " ++ cell_text c cell
line_text c (Out output) = codes "out " ++ decimal (output + 1)

-- the defect of a line: it is stuck at 0 or at 1, slow to rise (to leave 0) or slow to fall (to
-- leave 1)
abbrev pub defect_text : Model → Bool → List ℕ
defect_text StuckAt false = codes " sa0"
defect_text StuckAt true = codes " sa1"
defect_text Transition false = codes " str"
defect_text Transition true = codes " stf"
defect_text TransitionPairs false = codes " str"
defect_text TransitionPairs true = codes " stf"

-- a fault: its line, and its defect
abbrev pub fault_text : List Statement → Fault → List ℕ
fault_text c f = line_text c f.line ++ defect_text f.model f.stuck

-- the number of a test, or `none`
abbrev pub first_text : Option ℕ → List ℕ
first_text None = codes "none"
first_text (Some t) = decimal t

-- two decimal digits
abbrev pub two_digits : ℕ → List ℕ
two_digits n = (48 + n / 10) ∷ (48 + n % 10) ∷ []

-- a part of a whole in percent, `P.PP`: with h = 10000 part div whole, the digits before the point
-- are h div 100 and the digits after it are h mod 100
abbrev pub percentage : ℕ → ℕ → List ℕ
percentage part whole =
    let h : ℕ = 10000 * part / whole in
    decimal (h / 100) ++ codes "." ++ two_digits (h % 100)

-- `D of T (P.PP%)`, with the counted noun before the bracket
abbrev pub coverage_of : List ℕ → ℕ → ℕ → List ℕ
coverage_of counted found total =
    decimal found ++ codes " of " ++ decimal total ++ counted ++ codes " ("
    ++ percentage found total ++ codes "%)\n"

-- the coverage line, `D of T (P.PP%)`
abbrev pub coverage_line : ℕ → ℕ → List ℕ
coverage_line found total = coverage_of [] found total

-- the line of a fault, given as text: `FAULT FIRST`
abbrev pub name_line : List ℕ × Option ℕ → List ℕ
name_line at = at.0 ++ (codes " " ++ first_text at.1 ++ codes "\n")

-- whether a fault with this first test has a line: no fault has one, all faults have one, or the
-- faults that no test detects
abbrev pub has_line : Lines → Option ℕ → Bool
has_line Omitted first = false
has_line All first = true
has_line Undetected first = is_none first

-- the line of a fault, given as text, if it has one
abbrev pub wanted_name : Lines → List ℕ × Option ℕ → List ℕ
wanted_name lines at = if has_line lines at.1 then name_line at else []

-- the same for a fault of a circuit
abbrev pub wanted_line : Lines → List Statement → Fault × Option ℕ → List ℕ
wanted_line lines c at = wanted_name lines (fault_text c at.0, at.1)

-- the fault lines of a model, in the order of the faults
abbrev pub fault_lines : Lines → Model → List Statement → List (Option ℕ) → List ℕ
fault_lines lines m c firsts = flat_map (wanted_line lines c) (zip (faults m c) firsts)

-- those of the faults of a list from one number up to another
abbrev pub lines_between : Lines → List Statement → List Fault → List (Option ℕ) → ℕ → ℕ → List ℕ
lines_between lines c fs firsts start end =
    flat_map (wanted_line lines c) (slice_range (zip fs firsts) start end)

-- the report: the requested fault lines, and the coverage line
abbrev pub report : Model → List Statement → List (Option ℕ) → Lines → List ℕ
report m c firsts lines = fault_lines lines m c firsts
    ++ coverage_line (detected_count firsts) (length firsts)

-- the first test of the fault with a number
abbrev pub first_at : List (Option ℕ) → ℕ → Option ℕ
first_at firsts fault = slice_index_or firsts fault None

-- the first test of each class: the first test of its representative, which all its faults share
abbrev pub class_firsts : Collapsed → List (Option ℕ) → List (Option ℕ)
class_firsts classes firsts = map (first_at firsts) classes.representative

-- the coverage line of the classes, `D of C classes (P.PP%)`: D classes have a first test
abbrev pub class_coverage_line : Collapsed → List (Option ℕ) → List ℕ
class_coverage_line classes firsts =
    coverage_of (codes " classes") (detected_count (class_firsts classes firsts))
    (length classes.representative)

-- the report with all requested contents: the last line has the coverage of the classes
abbrev pub whole_report : Model → List Statement → Collapsed → List (Option ℕ) → Contents → List ℕ
whole_report m c classes firsts contents = report m c firsts contents.lines
    ++ (if contents.classes then class_coverage_line classes firsts else [])

-- a line of the listing: `FAULT class N`
abbrev pub class_line : List Statement → Fault × ℕ → List ℕ
class_line c at = fault_text c at.0 ++ (codes " class " ++ decimal at.1 ++ codes "\n")

-- the listing: a line for each fault in order, then `T faults in C classes`
abbrev pub listing : Model → List Statement → List ℕ → ℕ → List ℕ
listing m c class_of class_count =
    flat_map (class_line c) (zip (faults m c) class_of)
    ++ (decimal (length (faults m c)) ++ codes " faults in " ++ decimal class_count
    ++ codes " classes\n")
