-- From the table of a circuit or a job to the table of the files that it was read from.
use Rattle.std.{proofs.Common.{◌≡◌, ◌∙◌, [], ℕ, List, ap, length, subst}, specs.Prelude.Option}
use Rattle.bench_net.specs.{Refusal.IsAccepted, Statement.Statement}
use Rattle.block_sim.specs.Parts.{Parts}
use Rattle.fault_model.specs.{declared.Model.Model, Collapse.{AreClassesOf, Collapsed}}
use Rattle.fault_model.specs.Fault.{FaultList, fault_list, faults}
use Rattle.workers.specs.{Verdict.AreFirsts, declared.RunFault.RunFault, Stops.Stops}
use Rattle.job_loading.specs.declared.fault.SimFault.{SimFault}
use Rattle.job_loading.specs.declared.fault.SimFault.TheVariants as fault
use Rattle.report.specs.{declared.contents.Lines.Lines, EndToEnd.{IsListingFault, IsListFault}}
use Rattle.report.specs.declared.contents.Lines.TheVariants.{All}
use Rattle.region_runs.specs.Refused.{IsFirstsFault, IsOpenFault}
use Rattle.workers.specs.declared.RunFault.TheVariants as run_fault
use Rattle.table_rows.specs.{Table.table_text, declared.rows.Format.Format}
use Rattle.tables.specs.declared.further.FurtherColumns.{FurtherColumns}
use Rattle.tables.specs.FurtherColumns.{AreFurtherColumns, FurtherColumn}
use Rattle.tables.specs.Tables.{IsClassTableOf, IsClassTableOfCircuit, IsFirstTableOfJob}
use Rattle.tables.specs.Tables.{class_values, fault_table, first_values}

-- an error of a table is an error of a listing
pub table_fault : (bench : List ℕ) (f : SimFault) → IsListFault f → IsListingFault bench f
table_fault bench (fault.Report f) h = tt
table_fault bench fault.Memory h = tt
table_fault bench (fault.Bench f) h = absurd h
table_fault bench (fault.Tests f) h = absurd h
table_fault bench (fault.Order f) h = absurd h
table_fault bench (fault.Job f) h = absurd h
table_fault bench (fault.Run f) h = absurd h

-- the table of a list of faults and of their classes
pub classes_table : (m : Model) (c : List Statement) (list : FaultList) (classes : Collapsed)
    (format : Format) → list ≡ fault_list m c → AreClassesOf list.model c classes → (bytes : List ℕ)
    → bytes ≡ table_text format (fault_table c list.list
    (class_values classes.class_of (length classes.representative)) All [])
    → IsClassTableOfCircuit m c format bytes
classes_table m c list classes format listed are bytes is =
    let of_model : list.model ≡ m = ap (λ l. l.model) listed in
    let own : list.list ≡ faults m c = ap (λ l. l.list) listed in (
      classes,
      subst (λ k. AreClassesOf k c classes) of_model are,
      is ∙ ap (λ l. table_text format (fault_table c l
          (class_values classes.class_of (length classes.representative)) All [])) own,
    )

-- the table of the circuit of a file
pub classes_of_text : (m : Model) (bench : List ℕ) (c : List Statement) (format : Format)
    → IsAccepted bench c → (bytes : List ℕ) → IsClassTableOfCircuit m c format bytes
    → IsClassTableOf m bench format bytes
classes_of_text m bench c format accepted bytes is = (c, is.0, accepted, is.1, is.2)

-- the table of a job's faults, of their first tests and of further columns
pub firsts_table : (job : Parts) (firsts : List (Option ℕ)) (lines : Lines)
    (wanted : FurtherColumns) (further : List FurtherColumn) (format : Format)
    → job.list ≡ fault_list job.list.model job.circuit
    → AreFirsts job.list.model job.circuit job.tests.tests firsts
    → AreFurtherColumns job firsts wanted further → (bytes : List ℕ)
    → bytes ≡ table_text format (fault_table job.circuit job.list.list (first_values firsts) lines
    further) → IsFirstTableOfJob job lines wanted format bytes
firsts_table job firsts lines wanted further format listed are all bytes is = (
  firsts,
  further,
  are,
  all,
  is ∙ ap (λ l. table_text format (fault_table job.circuit l (first_values firsts) lines further))
      (ap (λ l. l.list) listed),
)

-- an error of the second run is an error of the first run, too
pub counts_fault : (job : Parts) (stretches workers : ℕ) (passing : Type 0) (stops : Stops)
    (f : RunFault) → IsOpenFault workers f → IsFirstsFault job stretches workers passing stops f
counts_fault job stretches workers passing stops run_fault.Memory h = h
counts_fault job stretches workers passing stops run_fault.Threads h = h
counts_fault job stretches workers passing stops run_fault.TooManyPieces h = absurd h
counts_fault job stretches workers passing stops (run_fault.Unfinished class block) h = absurd h
counts_fault job stretches workers passing stops run_fault.NoWorkers h = h
counts_fault job stretches workers passing stops run_fault.TooManyWorkers h = h
counts_fault job stretches workers passing stops (run_fault.NoSuchMove index) h = h
