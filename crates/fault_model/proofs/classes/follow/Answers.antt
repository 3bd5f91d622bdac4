use Rattle.std.proofs.Common.{◌≡◌, ◌<◌, length, Some, ap, subst, ◌∙◌, get_or, refl, set}
use Rattle.std.specs.Prelude.{slice_get, option_map, option_and_then}
use Rattle.list_lemmas.proofs.Places.{within_place}
use Rattle.fault_model.specs.{Fault.faults, Collapse.next}
use Rattle.fault_model.proofs.FollowedClasses.{Followed, follow_some}
use Rattle.fault_model.proofs.classes.follow.Goals.{In-Some}
use Rattle.fault_model.proofs.classes.follow.Goals as goal

-- the class of the next fault was written
written : (c : In-Some) → Followed c.args.list.now.model c.args.circuit.now c.args.class_of.now
    (set c.args.class_of.now c.args.fault (get_or c.args.class_of.now c.in-Some.next 0))
    c.args.fault
written c =
    let circuit = c.args.circuit.now in
    let m = c.args.list.now.model in
    let classes = c.args.class_of.now in
    let to = c.in-Some.next in
    let count : length classes ≡ length (faults m circuit) =
    c.requires.count ∙ ap length c.requires.same in
    let p = within_place (faults m circuit) c.args.fault
    (subst (λ list. c.args.fault < length list) c.requires.same c.requires.in_range) in
    let found : option_map (slice_get (faults m circuit)) (Some to) ≡ option_map Some
    (option_and_then (next circuit) (slice_get (faults m circuit) c.args.fault)) =
    rw c.requires.same at c.in-Some.ensures in
    follow_some m circuit classes c.args.fault to (get_or classes to 0) p.0 count p.1
    c.requires.next found refl

pub returns-in-Some-clause-known : goal.returns-in-Some-clause-known
returns-in-Some-clause-known c = (written (goal.at.returns-in-Some-clause-known c).In-Some).known

pub returns-in-Some-clause-kept : goal.returns-in-Some-clause-kept
returns-in-Some-clause-kept c = (written (goal.at.returns-in-Some-clause-kept c).In-Some).kept
