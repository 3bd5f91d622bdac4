use Rattle.std.proofs.Common.{rules}
use Rattle.bench_net.proofs.circuit.Circuit.outputs.Goals as goal

pub returns : goal.returns
returns c = search rules
