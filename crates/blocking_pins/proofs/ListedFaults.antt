-- A fault of a job's list in the form of the code.
use Rattle.std.proofs.Common.{◌≡◌, ◌∙◌, ℕ, Bool, ap, refl, subst, sym}
use Rattle.std.specs.Prelude.{Contains, IfSome, Some, slice_get}
use Rattle.list_lemmas.proofs.{Members.contained, Places.at_place}
use Rattle.fault_model.specs.declared.{Line.Line, Model.Model}
use Rattle.fault_model.{specs.Fault.{Fault, FaultList, faults}, proofs.Public.listed_model}
use Rattle.flat_circuit.specs.Origins.{IsStuckOf}
use Rattle.block_sim.specs.Parts.{BelongTogether, Parts}

abbrev fault_from : Model → Line → Bool → Fault
fault_from m l b = record { model = m; line = l; stuck = b }

same_fault : (m n : Model) (l k : Line) (a b : Bool) → m ≡ n → l ≡ k → a ≡ b
    → fault_from m l a ≡ fault_from n k b
same_fault m n l k a b e f g = ap (λ x. fault_from x l a) e
    ∙ (ap (λ x. fault_from n x a) f ∙ ap (fault_from n k) g)

pub stuck_listed : (job : Parts) (list : FaultList) (fault : ℕ) (f : Fault) (m : Model) (l : Line)
    (b : Bool) → BelongTogether job → list ≡ job.list
    → slice_get job.list.list fault ≡ Some f → m ≡ list.model
    → IfSome (slice_get list.list fault) (λ g. l ≡ g.line)
    → IfSome (slice_get list.list fault) (λ g. b ≡ g.stuck)
    → IsStuckOf job.circuit f (record { model = m; line = l; at_one = b })
stuck_listed job list fault f m l b together part at is_model is_line is_bit =
    let own : slice_get list.list fault ≡ Some f =
    ap (λ (x : FaultList). slice_get x.list fault) part ∙ at in
    let in_list : Contains (faults job.list.model job.circuit) f =
    contained (faults job.list.model job.circuit) f
    (at_place (faults job.list.model job.circuit) fault f
    (ap (λ (x : FaultList). slice_get x.list fault) (sym together.list) ∙ at)) in
    let model_is : f.model ≡ job.list.model = listed_model job.list.model job.circuit f in_list in
    record {
      listed = subst (λ x. Contains (faults x job.circuit) f) (sym model_is) in_list;
      is = same_fault m f.model l f.line b f.stuck
          (is_model ∙ (ap (λ (x : FaultList). x.model) part ∙ sym model_is))
          (subst (λ o. IfSome o (λ g. l ≡ g.line)) own is_line)
          (subst (λ o. IfSome o (λ g. b ≡ g.stuck)) own is_bit);
    }
