use Rattle.std.proofs.Common.{length}
use Rattle.part_files.{specs.PartReading.{head_in, texts_in}, proofs.PartReadings.Reading}
use Rattle.part_files.proofs.part_reader.read_lines.Given as goal

abbrev pub invariant-loop-line : goal.invariant-loop-line
invariant-loop-line l = Reading l.text (head_in l.header) (texts_in l.faults.items) l.verdicts.items
    l.rest l.number

abbrev pub decreases-loop-line : goal.decreases-loop-line
decreases-loop-line l = length l.rest
