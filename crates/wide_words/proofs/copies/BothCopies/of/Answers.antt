use Rattle.std.{proofs.Common.◌∙◌, specs.Prelude.slice_index_or}
use Rattle.wide_words.proofs.SlotParts.{in_turn_lane}
use Rattle.wide_words.proofs.copies.BothCopies.of.Goals as goal

pub returns : goal.returns
returns c = λ k lt. c.from_parts.ensures k lt
    ∙ in_turn_lane c.low_half-low.result c.high_half-high.result (slice_index_or
    c.args.self.words.now c.args.signal 0) c.low_half-low.ensures c.high_half-high.ensures k lt
