use Rattle.orders.proofs.OneAnswer.{All-has_moves, length-has_moves}
use Rattle.orders.proofs.laws.accepted_in_range.Goals as goal

pub returns-clause-workers : goal.returns-clause-workers
returns-clause-workers c = All-has_moves

pub returns-clause-moves : goal.returns-clause-moves
returns-clause-moves c = length-has_moves
