use Rattle.std.proofs.Common.{◌∙◌, ◌&&◌, ap, sym}
use Rattle.wide_words.specs.Wide.{number}
use Rattle.flat_circuit.specs.{GateForms.inverted_if, Words.lane, SlotWords.copied_bit}
use Rattle.flat_circuit.proofs.Public.{lane_xor, unlike}
use Rattle.region_sim.proofs.PackGates.{unlike_is}
use Rattle.region_sim.proofs.unit_gate.word_of_pin.Goals as goal

pub returns-then-has : goal.returns-then-has
returns-then-has g c = λ k lt.
    let bit = copied_bit g.C.Copies.layout (g.C.Copies.rows c.args.copies) k c.args.read in
    let on = lane (number c.args.lanes) k in
    ap (λ n. lane n k) c.xor.ensures ∙ (lane_xor (number c.of-word.result) (number c.args.lanes) k
    ∙ (ap (λ b. unlike b on) (c.of-word.ensures k lt) ∙ (unlike_is bit on
    ∙ ap (λ b. inverted_if (b && on) bit) (sym c.if-has.true ∙ c.has.ensures))))

pub returns-else-has : goal.returns-else-has
returns-else-has g c = λ k lt.
    let bit = copied_bit g.C.Copies.layout (g.C.Copies.rows c.args.copies) k c.args.read in
    let on = lane (number c.args.lanes) k in
    c.of-word.ensures k lt
    ∙ ap (λ b. inverted_if (b && on) bit) (sym c.if-has.false ∙ c.has.ensures)
