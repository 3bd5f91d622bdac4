use Rattle.part_files.specs.Merging.{HasParts}
use Rattle.part_files.proofs.ending.missing_part.Given as goal

-- the parts so far are there
abbrev pub invariant-loop-part : goal.invariant-loop-part
invariant-loop-part l = HasParts l.seen l.part-counter
