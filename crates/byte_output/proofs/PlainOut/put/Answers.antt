use Rattle.std.proofs.Common.{rules}
use Rattle.byte_output.proofs.PlainOut.put.Goals as goal

pub returns-in-Ok-clause-counted : goal.returns-in-Ok-clause-counted
returns-in-Ok-clause-counted g c = search rules

pub returns-in-Ok-2-clause-counted : goal.returns-in-Ok-2-clause-counted
returns-in-Ok-2-clause-counted g c = search rules
