use Rattle.std.proofs.Common.{refl}
use Rattle.part_files.proofs.JoinedParts.{fresh_of}
use Rattle.part_files.proofs.joining.check_new.Goals as goal

pub returns-clause-fresh : goal.returns-clause-fresh
returns-clause-fresh c = fresh_of _ _ _ refl c.if-contains.ensures.cases
