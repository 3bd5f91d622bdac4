use Rattle.std.proofs.Common.{◌∙◌, ap, sym}
use Rattle.fault_model.specs.declared.Line.TheVariants as line
use Rattle.fault_model.proofs.Public.{under_other, under_own}
use Rattle.flat_circuit.proofs.GateLanes.{plain_word}
use Rattle.flat_circuit.proofs.words.word_at_pin.Goals as goal

pub returns-then-place-pin : goal.returns-then-place-pin
returns-then-place-pin c = λ f signal k on bit.
    bit ∙ sym (under_own f (line.Pin signal c.args.place) _
    (on ∙ ap (line.Pin signal) (sym c.if-place-pin.true)))

pub returns-else-place-pin : goal.returns-else-place-pin
returns-else-place-pin c = λ f signal k on bit. plain_word c.args.words.now c.args.read k
    ∙ sym (under_other f (line.Pin signal c.args.place) _ (λ e. c.if-place-pin.false cc))
