use Rattle.std.proofs.Common.{inl, inr}
use Rattle.flat_circuit.{specs.Stuck.fault_of, specs.Words.pin_bits, proofs.GateLanes.form_lane}
use Rattle.flat_circuit.proofs.words.evaluate_gate.Goals.{then-gate, else-gate}
use Rattle.flat_circuit.proofs.words.evaluate_gate.Goals as goal

pub returns-clause-value : goal.returns-clause-value
returns-clause-value c = λ k lt. form_lane c.args.gate.kind c.args.gate.form
    (pin_bits (fault_of c.args.fault) c.args.signal c.args.gate.pins.now c.args.words.now
    c.args.delta.now k)
    c.folds_of-folds.result.all c.folds_of-folds.result.odd c.if-gate.word c.in_each_lane.result k
    c.requires.form (c.in_each_lane.ensures k lt)
    (c.folds_of-folds.ensures.all k lt) (c.folds_of-folds.ensures.odd k lt) (elim c.if-gate.branch [
      | then-gate w ↦ inl (w.if-gate.true, w.word-is)
      | else-gate w ↦ inr (w.if-gate.false, w.word-is)
    ])
