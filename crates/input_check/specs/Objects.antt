-- The bytes of the object of a check: the sizes of accepted files, or the errors of a file.
use Rattle.std.specs.Prelude.{◌≡◌, ℕ, ◌+◌, ◌/◌, ◌==◌, ◌||◌, nat_lt, List, [], ◌∷◌, ◌++◌, length}
use Rattle.std.specs.Prelude.{map, drop, sum, zip, Option, Some, None, option_map}
use Rattle.std.specs.Prelude.{if◌then◌else◌, codes, decimal, string_bytes}
use Rattle.std.specs.List.{flat_map}
use Rattle.json.specs.Print.{quoted}
use Rattle.fault_model.specs.declared.Model.{Model}
use Rattle.fault_model.specs.declared.Model.TheVariants.{StuckAt, Transition, TransitionPairs}
use Rattle.input_check.specs.declared.finding.Finding.{Finding}
use Rattle.input_check.specs.declared.finding.Findings.{Findings}
use Rattle.input_check.specs.Words.{line_of, words}
use Rattle.input_check.specs.declared.answer.Answer.{Answer}
use Rattle.input_check.specs.declared.answer.Answer.TheVariants as answer
use Rattle.input_check.specs.declared.errors.ErrorRow.{ErrorRow}
use Rattle.input_check.specs.declared.sizes.Sizes.{Sizes}
use Rattle.input_check.specs.declared.summary.Counts.{Counts}
use Rattle.input_check.specs.declared.summary.Excess.{Excess}
use Rattle.input_check.specs.declared.summary.TestCounts.{TestCounts}

-- ---- numbers, strings and members

abbrev pub number_or_null : Option ℕ → List ℕ
number_or_null (Some n) = decimal n
number_or_null None = codes "null"

abbrev pub string_or_null : Option (List ℕ) → List ℕ
string_or_null (Some text) = quoted text
string_or_null None = codes "null"

-- a member with this name and number, after a text
abbrev pub member_text : List ℕ → List ℕ × Option ℕ → List ℕ
member_text before m =
    before ++ (codes "\"" ++ (m.0 ++ (codes "\":" ++ number_or_null m.1)))

-- members on lines of their own
abbrev pub lines_text : List (List ℕ × Option ℕ) → List ℕ
lines_text members = flat_map (member_text (codes ",\n")) members

-- ---- the sizes of accepted files

abbrev pub model_word : Model → List ℕ
model_word StuckAt = codes "stuck"
model_word Transition = codes "transition"
model_word TransitionPairs = codes "transition-pairs"

-- the least number of megabytes that is above a number of bytes
abbrev pub megabytes : ℕ → ℕ
megabytes bytes = bytes / 1000000 + 1

abbrev pub kind_names : List (List ℕ)
kind_names = codes "AND" ∷ codes "NAND" ∷ codes "OR" ∷ codes "NOR" ∷ codes "XOR" ∷ codes "XNOR"
    ∷ codes "NOT" ∷ codes "BUFF" ∷ []

-- the numbers of gates of each kind
abbrev pub kinds_text : List ℕ → List ℕ
kinds_text gates = flat_map (member_text (codes ",")) (zip kind_names (map Some gates))

-- the number of all gates, and of those of each kind
abbrev pub gates_text : Counts → List ℕ
gates_text counts = (codes ",\n\"gates\":{\"total\":" ++ decimal (sum counts.gates))
    ++ (kinds_text counts.gates ++ codes "}")

abbrev pub signals_text : Counts → List ℕ
signals_text counts = lines_text (
    (codes "signals", Some counts.signals)
    ∷ (codes "sinks", Some counts.sinks)
    ∷ (codes "depth", Some counts.depth)
    ∷ (codes "faults", Some counts.faults)
    ∷ (codes "classes", Some counts.classes)
    ∷ [])

abbrev pub ports_text : Counts → List ℕ
ports_text counts = lines_text (
    (codes "inputs", Some counts.inputs)
    ∷ (codes "outputs", Some counts.outputs)
    ∷ (codes "flip_flops", Some counts.cells)
    ∷ [])

-- the sizes of a circuit
abbrev pub circuit_text : Counts → List ℕ
circuit_text counts = ports_text counts ++ (gates_text counts ++ signals_text counts)

-- the most tests of a run
abbrev pub limit_text : ℕ → List ℕ
limit_text tests = lines_text ((codes "tests_a_run", Some tests) ∷ [])

-- the size of a run of tests, if there is a test file
abbrev pub run_text : Option TestCounts → List ℕ
run_text taken = lines_text (
    (codes "tests", option_map (λ t. t.tests) taken)
    ∷ (codes "blocks", option_map (λ t. t.blocks) taken)
    ∷ (codes "pieces", option_map (λ t. t.pieces) taken)
    ∷ (codes "memory_mb", option_map (λ t. megabytes t.bytes) taken)
    ∷ [])

-- a warning after a comma and a line feed, and the array of all, in which the first has no comma
abbrev pub warning_text : List ℕ → List ℕ
warning_text warning = codes ",\n" ++ quoted warning

abbrev pub warnings_text : List (List ℕ) → List ℕ
warnings_text warnings = codes ",\n\"warnings\":["
    ++ (drop 1 (flat_map warning_text warnings) ++ codes "]")

-- the members before the sizes
abbrev pub head_text : Model → List ℕ
head_text model = codes "{\n\"errors\":[],\n\"more_errors\":0,\n\"model\":\""
    ++ (model_word model ++ codes "\"")

-- the object of accepted files
abbrev pub sizes_object : Sizes → List ℕ
sizes_object sizes = head_text sizes.counts.model ++ (circuit_text sizes.counts
    ++ (limit_text sizes.tests_a_run ++ (run_text sizes.tests
    ++ (warnings_text (map string_bytes sizes.warnings.items) ++ codes "\n}\n"))))

-- ---- the errors of a file

-- what the object has of an error
pub record ErrorCells : Type 0 where
  pub file : List ℕ
  pub line : Option ℕ
  pub column : Option ℕ
  pub message : List ℕ
  pub hint : Option (List ℕ)

abbrev pub error_of : ErrorRow → ErrorCells
error_of row = record {
  file = row.file.now;
  line = row.line;
  column = row.column;
  message = row.message.now;
  hint = option_map string_bytes row.hint;
}

-- the place of an error on its line, from 1, if it has the line's text
abbrev pub column_of : Finding → Option ℕ
column_of finding =
    if (length finding.text.now == 0) || nat_lt (length finding.text.now) finding.place.start
    then None else Some (finding.place.start + 1)

-- an error of the file at this path, without a hint
abbrev pub cells_of : List ℕ → Finding → ErrorCells
cells_of file finding = record {
  file = file;
  line = line_of finding.fault;
  column = column_of finding;
  message = words finding.fault;
  hint = None;
}

-- an error without its hint
abbrev pub without_hint : ErrorCells → ErrorCells
without_hint e = record e { hint = None }

-- these are the errors of the file at this path, in their order, each with some hint
abbrev pub AreErrorsOf : List ℕ → List Finding → List ErrorCells → Type 0
AreErrorsOf file findings errors = map without_hint errors ≡ map (cells_of file) findings

-- the first errors of a file
abbrev pub kept : Findings → List Finding
kept findings = findings.first ∷ findings.others.items

-- tests that are too many for one run
abbrev pub excess_words : Excess → List ℕ
excess_words excess = codes "found " ++ (decimal excess.pieces ++ (codes " pieces: "
    ++ (decimal excess.classes ++ (codes " classes on " ++ (decimal excess.blocks
    ++ codes " blocks of 64 tests; try --parts auto")))))

abbrev pub excess_cells : List ℕ → Excess → ErrorCells
excess_cells file excess = record {
  file = file;
  line = None;
  column = None;
  message = codes "more than 16777216 pieces";
  hint = Some (excess_words excess);
}

-- the object of an error after a comma and a line feed
abbrev pub error_text : ErrorCells → List ℕ
error_text e = codes ",\n{\"file\":" ++ (quoted e.file ++ (codes ",\"line\":"
    ++ (number_or_null e.line ++ (codes ",\"column\":" ++ (number_or_null e.column
    ++ (codes ",\"message\":" ++ (quoted e.message ++ (codes ",\"hint\":"
    ++ (string_or_null e.hint ++ codes "}")))))))))

-- the object of errors, with the number of further errors; the first has no comma
abbrev pub errors_object : List ErrorCells → ℕ → List ℕ
errors_object errors more = codes "{\n\"errors\":[" ++ (drop 1 (flat_map error_text errors)
    ++ (codes "],\n\"more_errors\":" ++ (decimal more ++ codes "\n}\n")))

-- the object of the errors of the file at this path, each with some hint
abbrev pub IsErrorsObject : List ℕ → Findings → List ℕ → Type 0
IsErrorsObject file findings bytes = (errors : List ErrorCells)
    × AreErrorsOf file (kept findings) errors × (bytes ≡ errors_object errors findings.more)

-- the object of a result for the bench file and the test file at these paths
abbrev pub IsObjectOf : List ℕ → List ℕ → Answer → List ℕ → Type 0
IsObjectOf bench tests (answer.Accepted sizes) bytes = bytes ≡ sizes_object sizes
IsObjectOf bench tests (answer.BenchRefused findings) bytes = IsErrorsObject bench findings bytes
IsObjectOf bench tests (answer.TestsRefused findings) bytes = IsErrorsObject tests findings bytes
IsObjectOf bench tests (answer.TooManyPieces excess) bytes =
    bytes ≡ errors_object (excess_cells tests excess ∷ []) 0
