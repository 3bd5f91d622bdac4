use Rattle.std.proofs.Common.{◌∙◌, ℕ, ap, inl, inr, map}
use Rattle.flat_circuit.{specs.Words.{lane, turned_word}, proofs.GateLanes.chosen_lane}
use Rattle.flat_circuit.proofs.words.evaluate_turned.Goals.{then-gate, else-gate}
use Rattle.flat_circuit.proofs.words.evaluate_turned.Goals as goal

pub returns-clause-value : goal.returns-clause-value
returns-clause-value c = λ k lt. chosen_lane c.args.gate.kind c.args.gate.form
    (map (λ (s : ℕ). lane (turned_word c.args.words.now c.args.turned c.args.lanes s) k)
    c.args.gate.pins.now) c.if-gate.word c.in_each_lane.result k
    c.requires.form (c.in_each_lane.ensures k lt) (elim c.if-gate.branch [
      | then-gate w ↦
          inl (w.if-gate.true, ap (λ x. lane x k) w.word-is ∙ w.odd_turned-word.ensures k lt)
      | else-gate w ↦
          inr (w.if-gate.false, ap (λ x. lane x k) w.word-is ∙ w.all_turned-word.ensures k lt)
    ])
