use Rattle.std.proofs.Common.{◌∙◌, ap}
use Rattle.fault_ledger.{specs.History.entry, proofs.Histories.entry_past}
use Rattle.fault_ledger.proofs.laws.pieces_change_once.Goals as goal

pub returns : goal.returns
returns c = λ piece later h continues n. ap (λ x. entry piece x) continues.1
    ∙ entry_past piece continues.0 h n
