use Rattle.fault_ledger.proofs.Histories.{held_once}
use Rattle.fault_ledger.proofs.laws.no_piece_is_held_twice.Goals as goal

pub returns : goal.returns
returns c = λ first second piece h e f. held_once first second piece h e f
