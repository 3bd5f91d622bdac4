-- From the report of a job to the report of the files that the job was read from.
use Rattle.std.proofs.Common.{◌≡◌, ◌∙◌, ℕ, ap, inl, inr, length, refl, subst, List}
use Rattle.std.specs.Prelude.{Result, Ok, Err, IfErr, OnOk}
use Rattle.bench_net.specs.{Refusal.IsAccepted, Scan.sources, Statement.Statement}
use Rattle.fault_model.specs.{declared.Model.Model, Collapse.{AreClassesOf, Collapsed}}
use Rattle.fault_model.specs.Fault.{FaultList, fault_list}
use Rattle.orders.specs.Order.{HasMoves}
use Rattle.patterns.specs.Tests.{HasTests, TestList}
use Rattle.block_sim.specs.Parts.{Parts, piece_count}
use Rattle.workers.specs.{declared.RunFault.RunFault, Verdict.AreFirsts}
use Rattle.byte_output.specs.Output.{Output}
use Rattle.job_loading.{specs.declared.fault.SimFault.SimFault, proofs.Public.job_of_texts}
use Rattle.job_loading.specs.Jobs.{IsJobOf, IsJobWithin, IsPiecesFault}
use Rattle.job_loading.specs.declared.fault.SimFault.TheVariants as fault
use Rattle.report.specs.EndToEnd.{WritesOneOf, IsListingOf, IsReportOf, IsReportOfJob, IsListFault}
use Rattle.report.specs.EndToEnd.{IsListingFault, IsListingOfCircuit, HasSomeMoves}
use Rattle.report.specs.EndToEnd.{IsScheduleReportFault, IsScheduleTextFault}
use Rattle.report.specs.{declared.contents.Contents.Contents, Report.{listing, whole_report}}
use Rattle.report.proofs.VerdictsOfRuns.{schedule_fault}

-- a text of one kind is a text of another kind
pub written_as : (A B : List ℕ → Type 0) (r : Result (Unit {0}) SimFault) (old new : Output)
    → ((text : List ℕ) → A text → B text) → WritesOneOf A r old new → WritesOneOf B r old new
written_as A B (Ok u) old new into w = (w.0, into w.0 w.1, w.2)
written_as A B (Err (fault.Report f)) old new into w = (w.0, into w.0 w.1, w.2)
written_as A B (Err (fault.Bench f)) old new into w = w
written_as A B (Err (fault.Tests f)) old new into w = w
written_as A B (Err (fault.Order f)) old new into w = w
written_as A B (Err (fault.Job f)) old new into w = w
written_as A B (Err (fault.Run f)) old new into w = w
written_as A B (Err fault.Memory) old new into w = w

-- an error of one kind is an error of another kind
pub refused_as : (A B : SimFault → Type 0) (r : Result (Unit {0}) SimFault)
    → ((f : SimFault) → A f → B f) → IfErr r A → IfErr r B
refused_as A B (Ok u) into w = w
refused_as A B (Err f) into w = into f w

-- the report of a job of files is the report of the files
pub report_of : (m : Model) (bench text : List ℕ) (contents : Contents) (job : Parts)
    → IsJobOf m bench text job → (bytes : List ℕ) → IsReportOfJob job contents bytes
    → IsReportOf m bench text contents bytes
report_of m bench text contents job is bytes of_job =
    let are = subst (λ k. AreFirsts k job.circuit job.tests.tests of_job.0) is.3 of_job.1 in
    let classes = subst (λ k. AreClassesOf k job.circuit job.classes) is.3 is.2.classes in (
      job.circuit,
      job.tests,
      job.classes,
      of_job.0,
      is.0,
      is.1,
      classes,
      are,
      of_job.2 ∙ ap (λ k. whole_report k job.circuit job.classes of_job.0 contents) is.3,
    )

-- a text that is written of a job of files is written of the files
pub written_of_texts : (m : Model) (bench text : List ℕ) (contents : Contents) (job : Parts)
    (r : Result (Unit {0}) SimFault) (old new : Output) → IsJobOf m bench text job
    → WritesOneOf (IsReportOfJob job contents) r old new
    → WritesOneOf (IsReportOf m bench text contents) r old new
written_of_texts m bench text contents job r old new is =
    written_as (IsReportOfJob job contents) (IsReportOf m bench text contents) r old new
    (report_of m bench text contents job is)

pub moves_fault : (m : Model) (bench text order : List ℕ) (workers : ℕ) (job : Parts)
    (moves : List ℕ) → IsJobWithin m bench text job → HasMoves order workers moves
    → (f : SimFault) → IsScheduleReportFault (piece_count job) moves workers f
    → IsScheduleTextFault m bench text order workers f
moves_fault m bench text order workers job moves within has (fault.Run f) h =
    schedule_fault m bench text order workers job moves f within has h
moves_fault m bench text order workers job moves within has (fault.Report f) h =
    (job, within, (moves, has), h.0, h.1)
moves_fault m bench text order workers job moves within has (fault.Bench f) h = absurd h
moves_fault m bench text order workers job moves within has (fault.Tests f) h = absurd h
moves_fault m bench text order workers job moves within has (fault.Order f) h = absurd h
moves_fault m bench text order workers job moves within has (fault.Job f) h = absurd h
moves_fault m bench text order workers job moves within has fault.Memory h = absurd h

-- an error of a job for its pieces, after the moves of the order were read
pub pieces_fault : (m : Model) (bench text order : List ℕ) (workers : ℕ) (c : List Statement)
    (tests : TestList) → IsAccepted bench c → HasTests text (length (sources c)) tests
    → HasSomeMoves order workers → (f : SimFault) → IsPiecesFault m c tests f
    → IsScheduleTextFault m bench text order workers f
pieces_fault m bench text order workers c tests accepted has some (fault.Job f) (inl is) =
    (some, inl is)
pieces_fault m bench text order workers c tests accepted has some (fault.Job f) (inr is) =
    (some, inr (is.0, job_of_texts m bench text c tests is.0 accepted has is.1, is.2))
pieces_fault m bench text order workers c tests accepted has some fault.Memory h = some
pieces_fault m bench text order workers c tests accepted has some (fault.Bench f) h = absurd h
pieces_fault m bench text order workers c tests accepted has some (fault.Tests f) h = absurd h
pieces_fault m bench text order workers c tests accepted has some (fault.Order f) h = absurd h
pieces_fault m bench text order workers c tests accepted has some (fault.Run f) h = absurd h
pieces_fault m bench text order workers c tests accepted has some (fault.Report f) h = absurd h

-- a fact that holds anyway holds if a call succeeded
pub on_ok : (P : Type 0) (r : Result (Unit {0}) SimFault) → P → OnOk r P
on_ok P (Ok u) p = p
on_ok P (Err f) p = tt

pub ok_as : (P Q : Type 0) (r : Result (Unit {0}) SimFault) → (P → Q) → OnOk r P → OnOk r Q
ok_as P Q (Ok u) into p = into p
ok_as P Q (Err f) into p = tt

-- the listing that is written of a circuit
pub taken_of_circuit : (m : Model) (c : List Statement) (list : FaultList) (classes : Collapsed)
    (IsTaken : List ℕ → Type 0) → list ≡ fault_list m c → AreClassesOf list.model c classes
    → IsTaken (listing list.model c classes.class_of (length classes.representative))
    → (text : List ℕ) × IsListingOfCircuit m c text × IsTaken text
taken_of_circuit m c list classes IsTaken listed are taken =
    let of_model : list.model ≡ m = ap (λ l. l.model) listed in (
      listing m c classes.class_of (length classes.representative),
      (classes, subst (λ k. AreClassesOf k c classes) of_model are, refl),
      subst (λ k. IsTaken (listing k c classes.class_of (length classes.representative))) of_model
          taken,
    )

-- the listing of the circuit of a file is the listing of the file
pub listing_of : (m : Model) (bench : List ℕ) (c : List Statement) → IsAccepted bench c
    → (text : List ℕ) → IsListingOfCircuit m c text → IsListingOf m bench text
listing_of m bench c accepted text is = (c, is.0, accepted, is.1, is.2)

-- an error of the listing of the circuit of a file is an error of the file
pub listing_fault : (bench : List ℕ) (f : SimFault) → IsListFault f → IsListingFault bench f
listing_fault bench (fault.Report f) h = tt
listing_fault bench fault.Memory h = tt
listing_fault bench (fault.Bench f) h = absurd h
listing_fault bench (fault.Tests f) h = absurd h
listing_fault bench (fault.Order f) h = absurd h
listing_fault bench (fault.Job f) h = absurd h
listing_fault bench (fault.Run f) h = absurd h
