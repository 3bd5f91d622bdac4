-- From the result for a circuit and tests to the result for the files.
use Rattle.std.{proofs.Common.{ℕ, List, refl}, specs.declared.alloc.AllocError.AllocError}
use Rattle.std.specs.Prelude.{Option, Some, None, Result, Ok, Err, IfOk}
use Rattle.bench_net.specs.{Refusal.IsAccepted, Statement.Statement}
use Rattle.fault_model.specs.{declared.Model.Model, Collapse.{AreClassesOf, Collapsed}}
use Rattle.fault_model.specs.Fault.{fault_list}
use Rattle.patterns.specs.Tests.{TestList}
use Rattle.block_sim.specs.{Parts.Parts, JobParts.IsJobUnder}
use Rattle.job_loading.{specs.Jobs.AreTestsFor, proofs.Public.job_of_texts}
use Rattle.input_check.specs.{declared.answer.Answer.Answer, Checks.{IsAnswerTo, IsCircuitAnswer}}
use Rattle.input_check.specs.declared.answer.Answer.TheVariants as answer

-- the job of a circuit and of tests
abbrev pub made_job : Model → List Statement → Collapsed → TestList → Parts
made_job m c classes tests = record {
  circuit = c;
  list = fault_list m c;
  classes = classes;
  tests = tests;
}

pub is_made : (m : Model) (c : List Statement) (classes : Collapsed) (tests : TestList)
    → AreClassesOf m c classes → AreTestsFor c tests
    → IsJobUnder m c tests (made_job m c classes tests)
is_made m c classes tests are fit = (
  refl,
  refl,
  record {
    circuit = fit.circuit;
    list = refl;
    classes = are;
    tests = fit.tests;
    width = fit.width;
  },
  refl,
)

-- the result for the circuit of a file is a result for the files
answer_of : (m : Model) (bench : List ℕ) (tests : Option (List ℕ)) (c : List Statement)
    (given : Answer) → IsAccepted bench c → IsCircuitAnswer m c tests given
    → IsAnswerTo m bench tests given
answer_of m bench None c (answer.Accepted sizes) accepted is = (c, accepted, is)
answer_of m bench None c (answer.BenchRefused findings) accepted is = absurd is
answer_of m bench None c (answer.TestsRefused findings) accepted is = absurd is
answer_of m bench None c (answer.TooManyPieces excess) accepted is = absurd is
answer_of m bench (Some text) c (answer.BenchRefused findings) accepted is = absurd is.2
answer_of m bench (Some text) c (answer.TestsRefused findings) accepted is =
    (c, is.0, accepted, is.1, is.2)
answer_of m bench (Some text) c (answer.Accepted sizes) accepted is = (
  c,
  is.0,
  accepted,
  is.1,
  is.2.0,
  is.2.1,
  (job_of_texts m bench text c is.0 is.2.1 accepted is.1 is.2.2, is.2.3),
)
answer_of m bench (Some text) c (answer.TooManyPieces excess) accepted is = (
  is.2.0,
  job_of_texts m bench text c is.0 is.2.0 accepted is.1 is.2.1,
  is.2.2,
)

pub answered : (m : Model) (bench : List ℕ) (tests : Option (List ℕ)) (c : List Statement)
    (r : Result Answer AllocError) → IsAccepted bench c → IfOk r (IsCircuitAnswer m c tests)
    → IfOk r (IsAnswerTo m bench tests)
answered m bench tests c (Ok given) accepted is = answer_of m bench tests c given accepted is
answered m bench tests c (Err e) accepted is = is
