use Rattle.std.proofs.Common.{◌∙◌, ap, inl, inr}
use Rattle.wide_words.specs.Wide.{number}
use Rattle.region_sim.specs.Units.{turned_bits}
use Rattle.region_sim.proofs.unit_gate.gate_turned.Goals.{then-gate, else-gate}
use Rattle.flat_circuit.{specs.Words.lane, proofs.Public.chosen_lane}
use Rattle.region_sim.proofs.unit_gate.gate_turned.Goals as goal

pub returns : goal.returns
returns g c = λ k lt. ap (λ n. lane n k) c.xor.ensures
    ∙ chosen_lane c.args.gate.kind c.args.gate.form
    (turned_bits g.C.Copies.layout (g.C.Copies.rows c.args.copies) c.args.turned
    (number c.args.lanes) c.args.gate.pins.now k)
    (number c.if-gate.word) (number c.in_each_wide_lane.result) k
    c.requires.form (c.in_each_wide_lane.ensures k lt) (elim c.if-gate.branch [
      | then-gate w ↦ inl (
        w.if-gate.true,
        ap (λ x. lane (number x) k) w.word-is ∙ w.odd_turned-word.ensures k lt,
      )
      | else-gate w ↦ inr (
        w.if-gate.false,
        ap (λ x. lane (number x) k) w.word-is ∙ w.all_turned-word.ensures k lt,
      )
    ])
