use Rattle.std.{proofs.Common.take, specs.Prelude.zip, specs.List.flat_map}
use Rattle.byte_output.specs.Output.{TakesAll}
use Rattle.part_files.specs.PartReading.{texts_in}
use Rattle.report.specs.Report.{wanted_name}
use Rattle.part_files.proofs.ending.put_names.Given as goal

-- the lines of the faults so far were taken whole
abbrev pub invariant-loop-place : goal.invariant-loop-place
invariant-loop-place g l = TakesAll (g.W.Out.seen l.initial.out) (g.W.Out.seen l.out)
    (flat_map (wanted_name l.lines) (take l.place (zip (texts_in l.faults) l.firsts)))
