use Rattle.std.proofs.{Common.{◌∙◌, ◌/◌, ◌%◌, ap, arith, replicate}, lemmas.Simd.get_or-replicate}
use Rattle.wide_words.{specs.Lanes.lane, proofs.Parts.lane_of}
use Rattle.wide_words.proofs.wide.Wide.splat.Goals as goal

pub returns : goal.returns
returns c = λ k lt. lane_of (replicate 8 c.args.part)
    (λ j d below. let e = get_or-replicate 8 j c.args.part d below in omega (arith, e)) k
    ∙ ap (λ x. lane x (k % 64)) (get_or-replicate 8 (k / 64) c.args.part 0 (omega arith))
