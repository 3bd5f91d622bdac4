-- A job of the circuit and the tests of accepted files is a job of the files.
use Rattle.std.proofs.Common.{◌≡◌, ◌⊎◌, ◌<◌, ◌≤◌, ℕ, List, length, refl, sym, ap, subst, inl, inr}
use Rattle.std.specs.Prelude.{Result, Err, ◌↔◌}
use Rattle.bench_net.specs.{Statement.Statement, Scan.sources, Refusal.IsAccepted}
use Rattle.fault_model.specs.{declared.Model.Model, Fault.{FaultList, fault_list}}
use Rattle.fault_model.specs.Collapse.{Collapsed, AreClassesOf}
use Rattle.patterns.specs.Tests.{TestList, HasTests, max_pieces}
use Rattle.block_sim.specs.{declared.job.JobFault.JobFault, JobParts.IsJobUnder}
use Rattle.block_sim.specs.Parts.{BelongTogether, Parts, piece_count, with_tests}
use Rattle.block_sim.specs.declared.job.JobFault.TheVariants as job_fault
use Rattle.job_loading.specs.declared.{fault.SimFault.SimFault, runs.Limit.Limit}
use Rattle.job_loading.specs.Jobs.{AreTestsFor, IsJobFault, IsJobOf, IsPiecesFault, IsReadFault}
use Rattle.job_loading.specs.Limits.{IsLimitFault, IsLimitFaultFor, IsWithinLimit}
use Rattle.job_loading.specs.declared.fault.SimFault.TheVariants as fault
use Rattle.job_loading.specs.declared.runs.Limit.TheVariants as limit

-- the parts that are made for a circuit and tests are a job of them
pub job_is : (m : Model) (c : List Statement) (list : FaultList) (classes : Collapsed)
    (tests : TestList) → list ≡ fault_list m c → AreClassesOf list.model c classes
    → AreTestsFor c tests
    → IsJobUnder m c tests (record { circuit = c; list = list; classes = classes; tests = tests })
job_is m c list classes tests listed are fit =
    let of_model : list.model ≡ m = ap (λ l. l.model) listed in (
      refl,
      refl,
      record {
        circuit = fit.circuit;
        list = subst (λ x. list ≡ fault_list x c) (sym of_model) listed;
        classes = are;
        tests = fit.tests;
        width = fit.width;
      },
      of_model,
    )

-- a job with other tests of the circuit's width is a job of the circuit and these tests
pub job_with_tests : (job : Parts) (tests : TestList) → BelongTogether job
    → AreTestsFor job.circuit tests
    → IsJobUnder job.list.model job.circuit tests (with_tests job tests)
job_with_tests job tests together fit = (
  refl,
  refl,
  record {
    circuit = together.circuit;
    list = together.list;
    classes = together.classes;
    tests = fit.tests;
    width = fit.width;
  },
  refl,
)

-- a job of the circuit and the tests of two texts is a job of the texts
pub job_of_texts : (m : Model) (bench text : List ℕ) (c : List Statement) (tests : TestList)
    (job : Parts) → IsAccepted bench c → HasTests text (length (sources c)) tests
    → IsJobUnder m c tests job → IsJobOf m bench text job
job_of_texts m bench text c tests job accepted has is = (
  subst (λ x. IsAccepted bench x) (sym is.0) accepted,
  subst (λ x. HasTests text (length (sources x)) job.tests) (sym is.0)
      (subst (λ t. HasTests text (length (sources c)) t) (sym is.1) has),
  is.2,
  is.3,
)

-- an error of the job of two files' circuit and tests is an error of the files
pub pieces_fault : (m : Model) (bench text : List ℕ) (c : List Statement) (tests : TestList)
    → IsAccepted bench c → HasTests text (length (sources c)) tests → (f : SimFault)
    → IsPiecesFault m c tests f → IsJobFault m bench text f
pieces_fault m bench text c tests accepted has (fault.Job f) (inl is) = inl is
pieces_fault m bench text c tests accepted has (fault.Job f) (inr is) =
    inr (is.0, job_of_texts m bench text c tests is.0 accepted has is.1, is.2)
pieces_fault m bench text c tests accepted has fault.Memory h = tt
pieces_fault m bench text c tests accepted has (fault.Bench f) h = absurd h
pieces_fault m bench text c tests accepted has (fault.Tests f) h = absurd h
pieces_fault m bench text c tests accepted has (fault.Order f) h = absurd h
pieces_fault m bench text c tests accepted has (fault.Run f) h = absurd h
pieces_fault m bench text c tests accepted has (fault.Report f) h = absurd h

-- an error of a job is for its pieces, or for memory
pub job_refused : (J P : Type 0) (f : JobFault)
    → (◌≡◌ {A = Result J JobFault} (Err f) (Err job_fault.TooManyPieces) ↔ P)
    → (f ≡ job_fault.Memory) ⊎ P
job_refused J P job_fault.TooManyPieces h = inr (h.0 refl)
job_refused J P job_fault.Memory h = inl refl

-- ---- a job within a limit

-- an error of the job of two files' circuit and tests is an error of the files
pub limit_fault : (m : Model) (bench text : List ℕ) (c : List Statement) (tests : TestList)
    (l : Limit) → IsAccepted bench c → HasTests text (length (sources c)) tests
    → (f : SimFault) → IsLimitFaultFor m c tests l f → IsLimitFault m bench text l f
limit_fault m bench text c tests limit.Pieces accepted has f h =
    pieces_fault m bench text c tests accepted has f h
limit_fault m bench text c tests limit.None accepted has f h =
    subst (IsReadFault bench text) (sym h) tt

-- too many pieces are an error if they are limited
pub too_many : (job : Parts) (tests : TestList) (l : Limit) → BelongTogether job
    → AreTestsFor job.circuit tests → l ≡ limit.Pieces
    → max_pieces < piece_count (with_tests job tests)
    → IsLimitFaultFor job.list.model job.circuit tests l (fault.Job job_fault.TooManyPieces)
too_many job tests l together fit is many =
    subst (λ p. IsLimitFaultFor job.list.model job.circuit tests p
    (fault.Job job_fault.TooManyPieces)) (sym is)
    (inr (with_tests job tests, job_with_tests job tests together fit, many))

-- and else the job is within the limit
pub not_too_many : (job run : Parts) (tests : TestList) (l : Limit) → run ≡ with_tests job tests
    → (l ≡ limit.Pieces → piece_count (with_tests job tests) ≤ max_pieces) → IsWithinLimit l run
not_too_many job run tests limit.Pieces is few =
    subst (λ p. piece_count p ≤ max_pieces) (sym is) (few refl)
not_too_many job run tests limit.None is few = tt
