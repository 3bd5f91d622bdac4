use Rattle.std.proofs.Common.{refl}
use Rattle.report.proofs.contents.Contents.of.Goals as goal

pub returns-clause-classes : goal.returns-clause-classes
returns-clause-classes c = refl
