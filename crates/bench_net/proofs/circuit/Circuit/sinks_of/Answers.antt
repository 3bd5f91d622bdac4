use Rattle.std.proofs.Common.{◌<◌, sym, subst, length}
use Rattle.bench_net.specs.Scan.{names}
use Rattle.bench_net.proofs.circuit.Circuit.sinks_of.Goals as goal

pub row-requires : goal.row-requires
row-requires c = c.self.invariant.have_rows c.args.signal
    (subst (λ s. c.args.signal < length (names s)) (sym c.self.view_is) c.requires)
