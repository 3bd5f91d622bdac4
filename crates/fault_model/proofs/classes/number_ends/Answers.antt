use Rattle.std.proofs.Common.{◌≡◌, ◌<◌, ◌+◌, Bool, true, false, [], ◌∷◌, ◌++◌, length, Some, None}
use Rattle.std.proofs.Common.{ap, ◌∙◌, subst, arith}
use Rattle.std.specs.Prelude.{slice_get, option_map, option_and_then, is_some, not}
use Rattle.list_lemmas.proofs.Places.{within_place}
use Rattle.fault_model.specs.{Fault.faults, Collapse.next}
use Rattle.fault_model.proofs.RepresentativeNumbers.{Numbered, numbered_end, numbered_other}
use Rattle.fault_model.proofs.RepresentativeNumbers.{numbered_ends, answer_none, answer_is_some}
use Rattle.fault_model.proofs.classes.number_ends.Goals.{then-is_none+in_ok-push-2, else-is_none}
use Rattle.fault_model.proofs.classes.number_ends.Goals as goal

opposite : (some none b : Bool) → some ≡ not none → none ≡ b → not some ≡ b
opposite some true b e h = ap not e ∙ h
opposite some false b e h = ap not e ∙ h

pub loop-fault-preserved : goal.loop-fault-preserved
loop-fault-preserved c =
    let circuit = c.args.circuit.now in
    let m = c.args.list.now.model in
    let k = c.loop-fault.fault in
    let class_of = c.loop-fault.class_of.items in
    let reps = c.loop-fault.representative.items in
    let p = within_place (faults m circuit) k (subst (λ n. k < n)
    (c.count-fault-end.ensures ∙ ap length c.requires.same) c.loop-fault-test.true) in
    let found : option_map (slice_get (faults m circuit)) c.next_in.result
    ≡ option_map Some (option_and_then (next circuit) (slice_get (faults m circuit) k)) =
    rw c.requires.same at c.next_in.ensures in
    let count : c.len.result ≡ length reps =
    omega (arith, c.len.ensures, c.loop-fault.representative.ok.0) in
    let classes_are : class_of ++ length reps ∷ [] ≡ c.push.new.self.items =
    rw (c.in_ok-push.ensures.items, count) in
    elim c.if-is_none.branch [
      | then-is_none+in_ok-push-2 w ↦
          let none : next circuit p.0 ≡ None =
          answer_none m circuit k p.0 c.next_in.result p.1 found
          (opposite (is_some c.next_in.result) c.is_none.result true c.is_none.ensures
          w.if-is_none.true) in
          let reps_are : reps ++ k ∷ [] ≡ c.if-is_none.representative.items =
          rw (w.representative-is, w.in_ok-push-2.ensures.items) in
          subst (λ xs. Numbered m circuit (k + 1) xs c.if-is_none.representative.items) classes_are
          (subst (λ xs. Numbered m circuit (k + 1) (class_of ++ length reps ∷ []) xs) reps_are
          (numbered_end m circuit k p.0 class_of reps p.1 c.loop-fault.invariant none))
      | else-is_none w ↦
          let some = answer_is_some m circuit k p.0 c.next_in.result p.1 found
          (opposite (is_some c.next_in.result) c.is_none.result false c.is_none.ensures
          w.if-is_none.false) in
          let reps_are : reps ≡ c.if-is_none.representative.items = rw w.representative-is in
          subst (λ xs. Numbered m circuit (k + 1) xs c.if-is_none.representative.items) classes_are
          (subst (λ xs. Numbered m circuit (k + 1) (class_of ++ length reps ∷ []) xs) reps_are
          (numbered_other m circuit k p.0 class_of reps p.1 c.loop-fault.invariant some.0 some.1))
    ]

pub returns-clause-classes : goal.returns-clause-classes
returns-clause-classes c =
    let circuit = c.args.circuit.now in
    let m = c.args.list.now.model in
    let last : c.loop-fault.fault ≡ length (faults m circuit) = omega (
      arith,
      c.loop-fault-test.false,
      c.loop-fault.auto.fault-end,
      c.count-fault-end.ensures,
      ap length c.requires.same,
    ) in
    let numbered : Numbered m circuit (length (faults m circuit)) c.loop-fault.class_of.items
    c.loop-fault.representative.items =
    subst (λ k. Numbered m circuit k c.loop-fault.class_of.items c.loop-fault.representative.items)
    last c.loop-fault.invariant in
    numbered_ends m circuit c.loop-fault.class_of.items c.loop-fault.representative.items numbered
