use Rattle.std.{proofs.Common.{◌∙◌, ap, inl, inr, map}, specs.Prelude.slice_index_or}
use Rattle.flat_circuit.{specs.Words.lane, proofs.GateLanes.chosen_lane}
use Rattle.flat_circuit.proofs.words.gate_word.Goals.{then-gate, else-gate}
use Rattle.flat_circuit.proofs.words.gate_word.Goals as goal

pub returns : goal.returns
returns c = λ k lt. chosen_lane c.args.gate.kind c.args.gate.form
    (map (λ s. lane (slice_index_or c.args.words.now s 0) k) c.args.gate.pins.now)
    c.if-gate.word c.in_each_lane.result k c.requires.form (c.in_each_lane.ensures k lt)
    (elim c.if-gate.branch [
      | then-gate w ↦
          inl (w.if-gate.true, ap (λ x. lane x k) w.word-is ∙ w.odd_of-word.ensures k lt)
      | else-gate w ↦
          inr (w.if-gate.false, ap (λ x. lane x k) w.word-is ∙ w.all_of-word.ensures k lt)
    ])
