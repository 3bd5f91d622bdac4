use Rattle.std.proofs.Common.{arith}
use Rattle.part_files.proofs.MergeEnds.{open_fault}
use Rattle.part_files.proofs.ending.firsts_of.Goals as goal

pub returns-in-OtherPart-clause-refused : goal.returns-in-OtherPart-clause-refused
returns-in-OtherPart-clause-refused c =
    open_fault c.args.verdicts.now c.loop-place.firsts.items c.loop-place.place _
    (omega arith) c.loop-place.invariant c.in-OtherPart.is
