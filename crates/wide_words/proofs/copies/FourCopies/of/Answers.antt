use Rattle.std.{proofs.Common.{◌≡◌, ◌∙◌, ◌+◌, ◌/◌, ◌%◌, ap, arith}, specs.Prelude.slice_index_or}
use Rattle.wide_words.{specs.Lanes.lane, specs.Layouts.one_of, proofs.SlotParts.at_one_of}
use Rattle.wide_words.proofs.copies.FourCopies.of.Goals as goal

pub returns : goal.returns
returns c = λ k lt.
    let same : k % 128 ≡ 0 + k % 128 = omega arith in
    let rows = one_of c.args.self.first.now c.args.self.second.now c.args.self.third.now
    c.args.self.fourth.now (k / 128) in
    c.side_by_side.ensures k lt
    ∙ (ap (λ w. lane w (k % 128)) (at_one_of (λ row. slice_index_or row c.args.signal 0)
    c.args.self.first.now c.args.self.second.now c.args.self.third.now c.args.self.fourth.now
    (k / 128)) ∙ ap (lane (slice_index_or rows c.args.signal 0)) same)
