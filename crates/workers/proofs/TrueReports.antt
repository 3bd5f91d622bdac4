-- From the true reports of each worker to first tests.
use Rattle.std.proofs.Common.{◌∙◌, ◌≡◌, ◌<◌, ℕ, [], ◌∷◌, ◌++◌, length, Option, Some, None, refl}
use Rattle.std.proofs.{Common.{sym, subst, append-nil}, Math.Nat.mod-lt}
use Rattle.fault_model.specs.Collapse.{representatives}
use Rattle.patterns.specs.{Tests.blocks, Least.Table}
use Rattle.block_sim.{specs.Parts.{Parts, BelongTogether}, proofs.Public.{one_outcome, true_table}}
use Rattle.fault_ledger.specs.declared.{Event.Event, Shape.Shape}
use Rattle.fault_ledger.specs.History.{History, ContinuesWithout, class_of, block_of, held_by}
use Rattle.fault_ledger.specs.Answer.{IsLegal, Gives, IsTrueTo}
use Rattle.fault_ledger.proofs.Public.{report_accepted, held_piece, block_of-below, some_class}
use Rattle.workers.specs.{Schedule.IsTableOf, Settling.{AreSettled, IsShapeOf}}
use Rattle.workers.specs.{Verdict.{AreFirsts, verdicts}, Work.{GivesTrue, ReportsTruly}}
use Rattle.workers.proofs.TrueOutcomes.{class_count, firsts_of}
use Rattle.workers.proofs.SeatCalls.{truly_append, truly_none}

-- every report gives the true outcome
abbrev pub AllTrue : Parts → Shape → History → Type 0
AllTrue job s [] = Unit {0}
AllTrue job s (Event.Report u o ∷ h) = GivesTrue job s (held_by u h) o × AllTrue job s h
AllTrue job s (Event.Claim u ∷ h) = AllTrue job s h
AllTrue job s (Event.Drop u ∷ h) = AllTrue job s h

-- if each worker's reports do
pub all_true : (job : Parts) (s : Shape) (h : History) → IsLegal s h
    → ((w : ℕ) → w < s.workers → ReportsTruly job s w h []) → AllTrue job s h
all_true job s [] l t = tt
all_true job s (Event.Claim u ∷ h) l t = all_true job s h l.1 t
all_true job s (Event.Drop u ∷ h) l t = all_true job s h l.1 t
all_true job s (Event.Report u o ∷ h) l t =
    let a = report_accepted s h u o l.0 in (
      subst (λ x. GivesTrue job s (held_by u x) o) (append-nil h) (((t u a.1).0 refl).0),
      all_true job s h l.1 (λ w lt. (t w lt).1),
    )

-- a worker's reports, in a history that goes on without it
pub truly_goes_on : (job : Parts) (s : Shape) (w : ℕ) (later earlier : History)
    → ContinuesWithout w later earlier → ReportsTruly job s w earlier []
    → ReportsTruly job s w later []
truly_goes_on job s w later earlier c t = subst (λ h. ReportsTruly job s w h []) (sym c.1)
    (truly_append job s w c.0 earlier [] t (truly_none job s w c.0 (earlier ++ []) c.2))

-- true reports are the reports of the true table
pub true_to : (job : Parts) (s : Shape) (table : Table) (h : History)
    → BelongTogether job → IsShapeOf job s → IsTableOf job table → IsLegal s h
    → AllTrue job s h → IsTrueTo s table h
true_to job s table [] b is each l t = tt
true_to job s table (Event.Claim u ∷ h) b is each l t = true_to job s table h b is each l.1 t
true_to job s table (Event.Drop u ∷ h) b is each l t = true_to job s table h b is each l.1 t
true_to job s table (Event.Report u o ∷ h) b is each l t = (
  go (held_by u h) refl t.0,
  true_to job s table h b is each l.1 t.1,
)
  where
    go : (x : Option ℕ) → held_by u h ≡ x → GivesTrue job s x o → Gives s table x o
    go None e g = absurd g
    go (Some p) e g =
        let lt = held_piece s u p h l.1 e in
        let c : class_of s p < length (representatives job.list.model job.circuit) =
        subst (λ n. class_of s p < n) (is.classes ∙ class_count job b)
        (mod-lt p (some_class s p lt)) in
        let d : block_of s p < blocks (length job.tests.tests) =
        subst (λ n. block_of s p < blocks n) is.tests (block_of-below s p lt) in
        one_outcome job.list.model job.circuit job.tests.tests (class_of s p)
        (block_of s p) o (table (class_of s p) (block_of s p)) g
        (each (class_of s p) (block_of s p) c d)

-- the verdicts of a history whose reports are true and that settles all classes are first tests
pub firsts_truly : (job : Parts) (s : Shape) (h : History) → BelongTogether job → IsShapeOf job s
    → IsLegal s h → AllTrue job s h → AreSettled s h s.classes
    → AreFirsts job.list.model job.circuit job.tests.tests (verdicts s h job.classes.class_of)
firsts_truly job s h b is l t settled =
    let table = true_table job.list.model job.circuit job.tests.tests b.circuit.well_formed in
    firsts_of job s table.0 h b is table.1 (true_to job s table.0 h b is table.1 l t) settled
