use Rattle.std.proofs.Common.{arith}
use Rattle.fault_model.proofs.FaultLines.{length_both}
use Rattle.fault_model.proofs.faults.Faults.count.Goals as goal

pub returns : goal.returns
returns c = rw (← c.self.view_is) (omega (
  arith,
  length_both c.self.inside.model c.self.inside.lines.items,
  c.self.inside.lines.ok.0,
))
