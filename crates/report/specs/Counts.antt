-- The counts of a run.
use Rattle.std.specs.Prelude.{ℕ, List, Option, length}
use Rattle.fault_model.specs.Collapse.{Collapsed}
use Rattle.fault_model.specs.Solution.{Test}
use Rattle.workers.specs.Verdict.{detected_count}
use Rattle.report.specs.declared.counts.RunCounts.{RunCounts}
use Rattle.report.specs.Report.{class_firsts}

-- the number of tests, faults and classes, and of faults and classes that a test detects
abbrev pub counts_of : List Test → Collapsed → List (Option ℕ) → RunCounts
counts_of tests classes firsts = record {
  tests = length tests;
  faults = length firsts;
  detected = detected_count firsts;
  classes = length classes.representative;
  detected_classes = detected_count (class_firsts classes firsts);
}
