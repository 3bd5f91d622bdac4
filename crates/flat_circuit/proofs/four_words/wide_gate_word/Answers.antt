use Rattle.std.proofs.Common.{◌∙◌, ap, inl, inr, map}
use Rattle.wide_words.specs.Wide.{number}
use Rattle.flat_circuit.{specs.SlotWords.copied_bit, specs.Words.lane, proofs.GateLanes.chosen_lane}
use Rattle.flat_circuit.proofs.four_words.wide_gate_word.Goals.{then-gate, else-gate}
use Rattle.flat_circuit.proofs.four_words.wide_gate_word.Goals as goal

pub returns : goal.returns
returns g c = λ k lt. ap (λ n. lane n k) c.xor.ensures
    ∙ chosen_lane c.args.gate.kind c.args.gate.form
    (map (copied_bit g.C.Copies.layout (g.C.Copies.rows c.args.copies) k) c.args.gate.pins.now)
    (number c.if-gate.word) (number c.in_each_wide_lane.result) k
    c.requires.form (c.in_each_wide_lane.ensures k lt) (elim c.if-gate.branch [
      | then-gate w ↦ inl (
        w.if-gate.true,
        ap (λ x. lane (number x) k) w.word-is ∙ w.wide_odd_of-word.ensures k lt,
      )
      | else-gate w ↦ inr (
        w.if-gate.false,
        ap (λ x. lane (number x) k) w.word-is ∙ w.wide_all_of-word.ensures k lt,
      )
    ])
