-- The lines of the faults of a list are lines of the circuit.
use Rattle.std.proofs.Common.{◌≡◌, ◌<◌, ℕ, List, ap, length, refl, subst, sym, ◌∙◌}
use Rattle.std.specs.Prelude.{Contains, IfSome, None, Option, Some, slice_get}
use Rattle.bench_net.{specs.Scan.{definition, names}, proofs.Public.definition_defines}
use Rattle.bench_net.specs.Statement.{Name, Statement, Input, Output, Gate, Dff}
use Rattle.list_lemmas.proofs.{Members.contained, Places.{at_place, place_within, within_place}}
use Rattle.fault_model.specs.{declared.Line.Line, Detection.{argument, name_on}}
use Rattle.fault_model.{specs.Fault.{FaultList, faults}, proofs.Public.carries}
use Rattle.fault_model.specs.declared.Line.TheVariants as line
use Rattle.block_sim.specs.Parts.{BelongTogether, Parts}
use Rattle.undetected.specs.Reasons.{IsLineIn}

-- a name with an argument is a gate's, and has the number of a signal
gate_in : (c : List Statement) (gate pin : ℕ) (n : Name)
    → argument (definition c gate) pin ≡ Some n → gate < length (names c)
gate_in c gate pin n named = go (definition c gate) refl named
  where
    go : (o : Option Statement) → definition c gate ≡ o → argument o pin ≡ Some n
        → gate < length (names c)
    go (Some (Gate g kind args)) is e =
        let d = definition_defines c gate (Gate g kind args) is in
        place_within (names c) gate d.0 d.2
    go (Some (Input m)) is e = let bad : None ≡ Some n = e in cc
    go (Some (Output m)) is e = let bad : None ≡ Some n = e in cc
    go (Some (Dff q d)) is e = let bad : None ≡ Some n = e in cc
    go None is e = let bad : None ≡ Some n = e in cc

-- a line that carries a name is one of the circuit
named_in : (c : List Statement) (l : Line) (n : Name) → name_on c l ≡ Some n → IsLineIn c l
named_in c (line.Stem s) n e = place_within (names c) s n e
named_in c (line.Pin gate pin) n e = gate_in c gate pin n e
named_in c (line.Data cell) n e = tt
named_in c (line.Out output) n e = tt

-- the line of the fault of a number in the list of a job
pub listed_in : (job : Parts) (list : FaultList) (i : ℕ) (l : Line) → list ≡ job.list
    → BelongTogether job → IfSome (slice_get list.list i) (λ f. l ≡ f.line)
    → i < length job.list.list → IsLineIn job.circuit l
listed_in job list i l part together line_is lt =
    let c = job.circuit in
    let m = job.list.model in
    let at = within_place job.list.list i lt in
    let here : slice_get list.list i ≡ Some at.0 = ap (λ x. slice_get x.list i) part ∙ at.1 in
    let on : l ≡ at.0.line = subst (λ x. IfSome x (λ f. l ≡ f.line)) here line_is in
    let own : slice_get (faults m c) i ≡ Some at.0 =
    ap (λ x. slice_get x.list i) (sym together.list) ∙ at.1 in
    let among : Contains (faults m c) at.0 = contained (faults m c) at.0
    (at_place (faults m c) i at.0 own) in
    let named = carries m c at.0 together.circuit.well_formed among in
    subst (IsLineIn c) (sym on) (named_in c at.0.line named.0 named.1)

-- the line carries a name that the circuit defines
pub listed_named : (job : Parts) (list : FaultList) (i : ℕ) (l : Line) → list ≡ job.list
    → BelongTogether job → IfSome (slice_get list.list i) (λ f. l ≡ f.line)
    → i < length job.list.list
    → (n : Name) × (name_on job.circuit l ≡ Some n) × Contains (names job.circuit) n
listed_named job list i l part together line_is lt =
    let c = job.circuit in
    let m = job.list.model in
    let at = within_place job.list.list i lt in
    let here : slice_get list.list i ≡ Some at.0 = ap (λ x. slice_get x.list i) part ∙ at.1 in
    let on : l ≡ at.0.line = subst (λ x. IfSome x (λ f. l ≡ f.line)) here line_is in
    let own : slice_get (faults m c) i ≡ Some at.0 =
    ap (λ x. slice_get x.list i) (sym together.list) ∙ at.1 in
    let among : Contains (faults m c) at.0 = contained (faults m c) at.0
    (at_place (faults m c) i at.0 own) in
    subst (λ x. (n : Name) × (name_on c x ≡ Some n) × Contains (names c) n) (sym on)
    (carries m c at.0 together.circuit.well_formed among)
