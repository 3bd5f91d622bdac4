-- The texts of the undetected faults with their reasons.
use Rattle.std.proofs.Common.{◌≡◌, ◌++◌, ◌∙◌, ℕ, List, [], append_assoc, refl}
use Rattle.std.specs.Prelude.{codes, decimal, None, Option, Some}
use Rattle.bench_net.specs.Statement.{Statement}
use Rattle.fault_model.specs.Fault.{Fault}
use Rattle.undetected.specs.declared.Reason.{Reason}
use Rattle.undetected.specs.declared.Reason.TheVariants.{NoPath, NotActivated, NotObserved}
use Rattle.analysis_reports.specs.Reasons.{reason_count, reason_line, reason_text, reasons_line}
use Rattle.report.specs.Report.{fault_text}

-- the line of a fault with this reason, and of a fault that has none
pub is_reason_line : (c : List Statement) (f : Fault) (own : Option Reason) (reason : Reason)
    (said : List ℕ) → own ≡ Some reason → said ≡ reason_text reason
    → fault_text c f ++ (codes " " ++ codes "none " ++ said ++ codes "\n") ≡ reason_line c (f, own)
is_reason_line c f own reason said has is = rw (has, is) refl

pub no_reason_line : (c : List Statement) (f : Fault) (own : Option Reason) → own ≡ None
    → reason_line c (f, own) ≡ []
no_reason_line c f own has = rw has refl

-- the last line from its numbers, given as texts
pub counts_line : (reasons : List (Option Reason)) (a b d : List ℕ)
    → a ≡ decimal (reason_count NoPath reasons) → b ≡ decimal (reason_count NotActivated reasons)
    → d ≡ decimal (reason_count NotObserved reasons)
    → a ++ (codes " no path, " ++ (b ++ (codes " not activated, "
    ++ (d ++ (codes " not observed\n" ++ []))))) ≡ reasons_line reasons
counts_line reasons a b d e f g = rw (e, f, g) (simp append_assoc)
