use Rattle.flat_circuit.proofs.Public.{pin_law}
use Rattle.region_sim.proofs.SensitizedLanes.{carried_before, passed_nowhere, passed_where}
use Rattle.region_sim.proofs.sensitized.lanes_before.Goals as goal

pub cross-requires-clause-read : goal.cross-requires-clause-read
cross-requires-clause-read c =
    pin_law c.args.view.circuit.now.arranged c.requires.view.circuit.well_formed c.args.signal
    c.args.gate.signal c.requires.read

pub returns-then-gate-eq0-clause-detection : goal.returns-then-gate-eq0-clause-detection
returns-then-gate-eq0-clause-detection c = λ tests group mask stem words carried.
    let circuit = c.args.view.circuit.now.arranged in
    carried_before circuit tests group mask stem c.args.signal c.args.gate.signal c.args.gate.lanes
    0 c.requires.view.circuit.well_formed c.requires.read carried
    (passed_nowhere circuit tests group c.args.signal c.args.gate.signal c.args.gate.lanes
    c.if-gate-eq0.true)

pub returns-clause-detection : goal.returns-clause-detection
returns-clause-detection c = λ tests group mask stem words carried.
    let circuit = c.args.view.circuit.now.arranged in
    carried_before circuit tests group mask stem c.args.signal c.args.gate.signal c.args.gate.lanes
    c.cross.result c.requires.view.circuit.well_formed c.requires.read carried
    (passed_where circuit tests group c.args.signal c.args.gate.signal c.args.gate.lanes
    c.cross.result (λ k lt e. c.cross.ensures.passed tests group k words lt e)
    c.cross.ensures.inside)
