use Rattle.std.proofs.Common.{sym, arith}
use Rattle.flat_circuit.{specs.Regions.{here, onward}, proofs.Stems.lone_within}
use Rattle.flat_circuit.proofs.region_classes.next_stem.Goals as goal

pub bounds-stems-gate : goal.bounds-stems-gate
bounds-stems-gate c =
    let lt = lone_within c.args.circuit.now c.requires.circuit.well_formed c.args.signal
    c.in-Some.gate (sym c.in-Some.ensures) in
    omega (arith, lt, c.requires.room)

pub returns-in-Some-clause-stem : goal.returns-in-Some-clause-stem
returns-in-Some-clause-stem c =
    let stem = c.requires.reader c.in-Some.gate (sym c.in-Some.ensures) in
    (onward (sym c.in-Some.ensures) stem.1.0, stem.1.1)

pub returns-in-None-clause-stem : goal.returns-in-None-clause-stem
returns-in-None-clause-stem c = (here, sym c.in-None.ensures)
