use Rattle.std.proofs.Common.{◌≡◌, ◌≤◌, ◌<◌, ◌+◌, ◌*◌, ℕ, length, ap, subst, sym, arith}
use Rattle.std.proofs.lemmas.List.{with_items_is}
use Rattle.bench_net.specs.Circuit.{max_signals, max_sinks}
use Rattle.fault_model.specs.{Fault.faults, Collapse.AreClassesOf, Known.HasClassAt}
use Rattle.fault_model.proofs.{FaultLines.faults_within, FollowedClasses.classes_are}
use Rattle.fault_model.proofs.ClassLaws.{classes_show_same}
use Rattle.fault_model.proofs.classes.collapse.Goals as goal

pub invariant_of-result : goal.invariant_of-result
invariant_of-result c =
    let few : length (faults c.args.list.now.model c.args.circuit.now)
    ≤ 2 * (max_signals + max_sinks) =
    faults_within c.args.list.now.model c.args.circuit.now c.follow_chains.ensures.circuit in
    omega (
      arith,
      few,
      ap length c.requires,
      c.in_ok-class_of.ensures.few,
      c.in_ok-class_of.field-0.representative.ok.0,
    )

pub returns-clause-classes : goal.returns-clause-classes
returns-clause-classes c =
    let circuit = c.args.circuit.now in
    let m = c.args.list.now.model in
    let made = c.in_ok-class_of.field-0.class_of in
    let written = c.follow_chains.new.class_of in
    let whole : length written ≡ made.len =
    omega (arith, c.follow_chains.auto.class_of, c.as_mut_slice.ensures.len) in
    let items = with_items_is made written whole in
    let count : length written ≡ length (faults m circuit) = omega (
      arith,
      c.follow_chains.auto.class_of,
      c.as_mut_slice.ensures.len,
      made.ok.0,
      c.in_ok-class_of.ensures.count,
      ap length c.requires,
    ) in
    let known : (i : ℕ) → i < length (faults m circuit) → HasClassAt m circuit written i =
    λ i lt. c.follow_chains.ensures.known i (omega (arith, lt, ap length c.requires)) in
    let right = classes_are m circuit written c.in_ok-class_of.field-0.representative.items count
    known (rw c.requires at c.in_ok-class_of.ensures.representatives) in
    subst (λ xs. AreClassesOf m circuit
    (record { class_of = xs; representative = c.in_ok-class_of.field-0.representative.items }))
    (sym items) right

pub returns-clause-same : goal.returns-clause-same
returns-clause-same c =
    classes_show_same c.args.circuit.now c.follow_chains.ensures.circuit.well_formed
    c.follow_chains.ensures.circuit.arities
