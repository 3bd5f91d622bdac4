use Rattle.std.{proofs.Common.{◌≡◌, ◌≤◌, take}, specs.Prelude.{count_by, is_some}}
use Rattle.report.specs.Report.{class_firsts}
use Rattle.part_files.proofs.merged_classes.detected_classes_in.Given as goal

-- the classes so far that are detected
abbrev pub invariant-loop-class : goal.invariant-loop-class
invariant-loop-class l = (l.found ≡ count_by is_some
    (take l.class (class_firsts l.classes l.firsts))) × (l.found ≤ l.class)
