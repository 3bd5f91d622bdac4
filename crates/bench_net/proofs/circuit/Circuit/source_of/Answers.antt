use Rattle.std.{proofs.Common.{◌<◌, arith, sym, subst, length}, specs.Prelude.None}
use Rattle.std.proofs.lemmas.List.{get_or_read}
use Rattle.bench_net.specs.{Scan.names, Inside.IsPlace}
use Rattle.bench_net.proofs.circuit.Circuit.source_of.Goals.{After-index}
use Rattle.bench_net.proofs.circuit.Circuit.source_of.Goals as goal

place : (c : After-index) → IsPlace c.args.self.now c.args.signal c.index.result.now
place c =
    let below = subst (λ s. c.args.signal < length (names s)) (sym c.self.view_is) c.requires in
    let read = get_or_read c.self.inside.tables.of_signals.source_places.items c.args.signal
    c.index.result.now (omega (arith, below, c.self.invariant.place_count)) c.index.ensures None in
    subst (λ s. IsPlace s c.args.signal c.index.result.now) c.self.view_is
    (rw read (c.self.invariant.places_are c.args.signal below))

pub returns-clause-place : goal.returns-clause-place
returns-clause-place c = (place (goal.at.returns-clause-place c).After-index).0

pub returns-clause-none : goal.returns-clause-none
returns-clause-none c = (place (goal.at.returns-clause-none c).After-index).1
