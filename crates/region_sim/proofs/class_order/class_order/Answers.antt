use Rattle.std.proofs.Common.{◌<◌, ◌∙◌, ◌^◌, List, ap, length, subst, sym, ℕ}
use Rattle.counting_sort.specs.SortedPlaces.{AreSortedPlaces}
use Rattle.region_sim.proofs.ClassOrders.{all_in_order}
use Rattle.region_sim.proofs.class_order.class_order.Goals as goal

pub sorted_places-requires-clause-few : goal.sorted_places-requires-clause-few
sorted_places-requires-clause-few c =
    subst (λ (l : List ℕ). length l < 2 ^ 32) (sym c.deref.ensures.value) c.in_ok-visits.ensures.few

pub returns-clause-classes : goal.returns-clause-classes
returns-clause-classes c =
    let classes = c.in_ok-sorted.sorted.places.items in
    all_in_order c.args.job.now c.in_ok-visits.visits.items classes c.in_ok-visits.ensures.visits
    (subst (λ (l : List ℕ). AreSortedPlaces l classes) c.deref.ensures.value
    c.in_ok-sorted.ensures.places)

pub returns-clause-count : goal.returns-clause-count
returns-clause-count c =
    c.in_ok-sorted.ensures.positions.count ∙ c.in_ok-sorted.ensures.places.count
    ∙ ap (λ (l : List ℕ). length l) c.deref.ensures.value ∙ c.in_ok-visits.ensures.visits.are.count
