use Rattle.std.{proofs.Common.{◌<◌, ◌+◌, ap, arith, length, subst}, specs.Prelude.◌^◌}
use Rattle.patterns.specs.Tests.{as_number}
use Rattle.flat_circuit.specs.Words.{lane}
use Rattle.compaction.{specs.Tallies.number_in, proofs.TallyDigits.{room_above, sum_above}}
use Rattle.compaction.proofs.tallies.+add_word.Goals as goal

pub add_word-requires : goal.add_word-requires
add_word-requires t c = (
  let h = c.in-Some.ensures.cases.1 in omega (arith, h),
  λ k lt. room_above c.in-Some.digit.now c.args.word k c.in-Some.higher.now
      (subst (λ xs. number_in xs k + as_number (lane c.args.word k) < 2 ^ length xs)
      c.in-Some.ensures.cases.0 (c.requires.room k lt)),
)

pub returns-in-Some-clause-sum : goal.returns-in-Some-clause-sum
returns-in-Some-clause-sum t c = λ k lt.
    let is = ap (λ xs. number_in xs k) c.in-Some.ensures.cases.0 in
    let sum = sum_above c.in-Some.digit.now c.args.word k (number_in c.in-Some.higher.now k)
    (number_in c.add_word.new.digits k) (c.add_word.ensures.sum k lt) in
    omega (arith, is, sum)
