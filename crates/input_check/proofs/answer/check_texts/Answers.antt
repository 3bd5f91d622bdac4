use Rattle.std.specs.Prelude.{option_map}
use Rattle.input_check.proofs.JobsOfAnswers.{answered}
use Rattle.input_check.proofs.answer.check_texts.Goals as goal

pub returns-in-Accepted : goal.returns-in-Accepted
returns-in-Accepted c =
    let found = rw (c.in-Accepted.is) at c.in_ok-circuit.ensures in
    answered c.args.model c.args.bench.now (option_map (λ text. text.now) c.args.tests)
    c.in-Accepted.circuit c.answer_for.result found.0 c.answer_for.ensures
