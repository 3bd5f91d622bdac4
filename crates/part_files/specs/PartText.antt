-- The text of one part of a run.
use Rattle.std.specs.Prelude.{◌≡◌, ℕ, ◌+◌, Bool, true, false, List, ◌++◌, map, zip, flat_map}
use Rattle.std.specs.Prelude.{count_by, is_some, codes, decimal}
use Rattle.bench_net.specs.Statement.{Statement}
use Rattle.fault_model.specs.declared.Model.{Model}
use Rattle.fault_model.specs.Fault.{Fault, faults}
use Rattle.block_sim.specs.Parts.{Parts}
use Rattle.region_runs.specs.declared.parts.PartVerdict.{PartVerdict}
use Rattle.region_runs.specs.declared.parts.PartVerdict.TheVariants.{First, OtherPart}
use Rattle.region_runs.specs.Part.{ArePartVerdicts}
use Rattle.part_files.specs.declared.part_writer.Head.{Head}
use Rattle.job_loading.specs.Jobs.{IsJobOf}
use Rattle.report.specs.Report.{first_text, fault_text}
use Rattle.job_loading.specs.Sums.{sum_text}
use Rattle.report.specs.RunIdentity.{model_name}

-- The values of the first line of a part file: the part, from 0, and the number of parts; then, as
-- words, the model, the rule of parts, and the sums of the bench file and of the test file.
pub record PartHead : Type 0 where
  pub part : ℕ
  pub parts : ℕ
  pub model : List ℕ
  pub rule : List ℕ
  pub bench : List ℕ
  pub tests : List ℕ

-- the part and the number of parts; parts count from 1 in the file
abbrev pub part_name : ℕ → ℕ → List ℕ
part_name part parts = codes "part " ++ decimal (part + 1) ++ codes " of " ++ decimal parts

-- the first line: `part I of N model MODEL rule RULE bench SUM tests SUM`
abbrev pub head_line : PartHead → List ℕ
head_line h = part_name h.part h.parts ++ codes " model " ++ h.model ++ codes " rule " ++ h.rule
    ++ codes " bench " ++ h.bench ++ codes " tests " ++ h.tests ++ codes "\n"

-- a verdict: the number of a test, `none`, or `-` of another part
abbrev pub verdict_text : PartVerdict → List ℕ
verdict_text (First first) = first_text first
verdict_text OtherPart = codes "-"

-- the line of a fault, given as text: `FAULT VERDICT`
abbrev pub verdict_line : List ℕ × PartVerdict → List ℕ
verdict_line at = at.0 ++ (codes " " ++ verdict_text at.1 ++ codes "\n")

-- whether a fault is of the part, and whether it is and a test detects it
abbrev pub is_own : PartVerdict → Bool
is_own (First first) = true
is_own OtherPart = false

abbrev pub is_found : PartVerdict → Bool
is_found (First first) = is_some first
is_found OtherPart = false

-- the last line: `part I of N: D of T`
abbrev pub end_line : ℕ → ℕ → ℕ → ℕ → List ℕ
end_line part parts found own = part_name part parts ++ codes ": " ++ decimal found
    ++ codes " of " ++ decimal own ++ codes "\n"

-- the part file of faults, given as texts, and of their verdicts
abbrev pub part_text : PartHead → List (List ℕ) → List PartVerdict → List ℕ
part_text h faults verdicts = head_line h ++ (flat_map verdict_line (zip faults verdicts)
    ++ end_line h.part h.parts (count_by is_found verdicts) (count_by is_own verdicts))

-- the same values, from the form of the code
abbrev pub said_by : Head → PartHead
said_by h = record {
  part = h.part;
  parts = h.parts;
  model = h.model.now;
  rule = h.rule.now;
  bench = h.bench.now;
  tests = h.tests.now;
}

-- the name of the rule that `part_of` is
abbrev pub rule_name : List ℕ
rule_name = codes "region"

-- the values of the first line for a part of a run under a model, by the sums of its two files
abbrev pub head_with : Model → List ℕ → List ℕ → ℕ → ℕ → PartHead
head_with m bench tests part parts = record {
  part = part;
  parts = parts;
  model = model_name m;
  rule = rule_name;
  bench = bench;
  tests = tests;
}

-- the same for a part of the run of a bench file and a test file
abbrev pub head_of : Model → List ℕ → List ℕ → ℕ → ℕ → PartHead
head_of m bench text part parts = head_with m (sum_text bench) (sum_text text) part parts

-- the line of a fault of a circuit
abbrev pub part_line : List Statement → Fault × PartVerdict → List ℕ
part_line c at = verdict_line (fault_text c at.0, at.1)

-- the part file of a circuit's faults and of their verdicts
abbrev pub job_part_text : PartHead → Model → List Statement → List PartVerdict → List ℕ
job_part_text h m c verdicts = part_text h (map (fault_text c) (faults m c)) verdicts

-- the bytes are the text of a part of a job's run
abbrev pub IsPartTextOfJob : PartHead → Parts → List ℕ → Type 0
IsPartTextOfJob h job bytes = (verdicts : List PartVerdict)
    × ArePartVerdicts job h.parts h.part verdicts
    × (bytes ≡ job_part_text h job.list.model job.circuit verdicts)

-- the bytes are the file of a part of the run of a bench file and a test file under a model: each
-- fault of the part has the first test that detects it, or none
abbrev pub IsPartTextOf : Model → List ℕ → List ℕ → ℕ → ℕ → List ℕ → Type 0
IsPartTextOf m bench text part parts bytes = (job : Parts) × IsJobOf m bench text job
    × IsPartTextOfJob (head_of m bench text part parts) job bytes
