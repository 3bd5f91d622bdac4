use Rattle.std.{proofs.Common.{◌∙◌, List, ap, length, subst, ℕ}, specs.Prelude.IfOk}
use Rattle.counting_sort.specs.SortedPlaces.{ArePositions, AreSortedPlaces}
use Rattle.region_sim.proofs.Public.{all_in_order}
use Rattle.region_runs.proofs.windows.classes_and_window.Goals as goal

pub returns-clause-classes : goal.returns-clause-classes
returns-clause-classes g c =
    let classes = c.in_ok-places.field-0.places.items in
    let sorted : AreSortedPlaces c.deref.result.now classes =
    subst (λ r. IfOk r (λ sorted. AreSortedPlaces c.deref.result.now sorted.places.items))
    c.in_ok-places.was c.sort_and_take-sorted.ensures.sorted in
    all_in_order c.args.job.now c.in_ok-visits.visits.items classes c.in_ok-visits.ensures.visits
    (subst (λ (l : List ℕ). AreSortedPlaces l classes) c.deref.ensures.value sorted)

pub returns-clause-count : goal.returns-clause-count
returns-clause-count g c =
    let made = c.in_ok-places.field-0 in
    let sorted : AreSortedPlaces c.deref.result.now made.places.items =
    subst (λ r. IfOk r (λ sorted. AreSortedPlaces c.deref.result.now sorted.places.items))
    c.in_ok-places.was c.sort_and_take-sorted.ensures.sorted in
    let at : ArePositions made.places.items made.positions.items =
    subst (λ r. IfOk r (λ sorted. ArePositions sorted.places.items sorted.positions.items))
    c.in_ok-places.was c.sort_and_take-sorted.ensures.positions in
    at.count ∙ sorted.count ∙ ap (λ (l : List ℕ). length l) c.deref.ensures.value
    ∙ c.in_ok-visits.ensures.visits.are.count
