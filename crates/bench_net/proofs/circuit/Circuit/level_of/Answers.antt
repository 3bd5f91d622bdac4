use Rattle.std.proofs.{Common.{◌<◌, arith, sym, subst, length}, lemmas.List.get_or_read}
use Rattle.bench_net.specs.{Scan.names, Level.HasLevel}
use Rattle.bench_net.proofs.circuit.Circuit.level_of.Goals as goal

pub returns : goal.returns
returns c =
    let below = subst (λ s. c.args.signal < length (names s)) (sym c.self.view_is) c.requires in
    let read = get_or_read c.self.inside.tables.levels.levels.items c.args.signal c.index.result.now
    (omega (arith, below, c.self.invariant.level_count)) c.index.ensures 0 in
    subst (λ s. HasLevel s c.args.signal c.index.result.now) c.self.view_is
    (rw read (c.self.invariant.levels_are c.args.signal below))
