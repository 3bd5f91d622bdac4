use Rattle.std.proofs.Common.{refl, arith}
use Rattle.patterns.proofs.MadeTests.{large_above, idle_here, not_idle}
use Rattle.patterns.proofs.word_rows.check_idle_bits.Goals as goal

pub returns-then-words-last-ne0-clause-refused : goal.returns-then-words-last-ne0-clause-refused
returns-then-words-last-ne0-clause-refused c =
    let words = c.args.words.now in (
      c.loop-source.source,
      refl,
      (
        c.loop-source-test.true,
        idle_here c.args.width c.args.count words (λ i. (c.type_inv.words i).fits)
            c.loop-source.source c.if-lanes-eq0.false (large_above _ _ c.if-words-last-ne0.true),
        λ lower h. not_idle c.args.width c.args.count words (λ i. (c.type_inv.words i).fits) lower
            (c.loop-source.invariant lower h),
      ),
    )

pub returns-clause-accepted : goal.returns-clause-accepted
returns-clause-accepted c = λ source h.
    not_idle c.args.width c.args.count c.args.words.now (λ i. (c.type_inv.words i).fits) source
    (c.loop-source.invariant source (omega (arith, h, c.loop-source-test.false)))
