use Rattle.std.proofs.Common.{arith}
use Rattle.fault_ledger.proofs.{JoinAndPart.splits, WordGroups.group_place}
use Rattle.fault_ledger.proofs.words.Words.part.Goals as goal

pub split_seat-others-requires : goal.split_seat-others-requires
split_seat-others-requires c =
    let w = c.self.inside in
    let at = group_place _ _ _ _ _ _ c.group.view_is c.requires.place c.self.view_is in
    (at.0, (let n = c.self.invariant.0 in omega arith), splits w.table.shared.key _ _)
