use Rattle.std.{proofs.Common.◌≡◌, specs.Prelude.{Ok, Err}}
use Rattle.bench_net.proofs.OneAnswer.{some_answer, one_answer}
use Rattle.bench_net.proofs.one_answer.Goals as goal

pub returns-clause-some : goal.returns-clause-some
returns-clause-some c = some_answer

pub returns-clause-one_circuit : goal.returns-clause-one_circuit
returns-clause-one_circuit c text d e a b = let same : Ok d ≡ Ok e =
    one_answer text (Ok d) (Ok e) a b in cc

pub returns-clause-not_both : goal.returns-clause-not_both
returns-clause-not_both c text d fault a r = let bad : Ok d ≡ Err fault =
    one_answer text (Ok d) (Err fault) a r in cc

pub returns-clause-one_refusal : goal.returns-clause-one_refusal
returns-clause-one_refusal c text f g r s = let same : Err f ≡ Err g =
    one_answer text (Err f) (Err g) r s in cc
