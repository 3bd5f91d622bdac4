-- Classes that are followed on a unit, one after the other.
use Rattle.std.proofs.Common.{◌≡◌, ◌+◌, ◌<◌, ◌≤◌, ◌⊎◌, ℕ, sym, ◌∙◌, ap, subst, Bool, List, length}
use Rattle.std.{proofs.Common.{arith, true}, specs.Prelude.{Some, slice_get}}
use Rattle.wide_words.specs.Wide.{number}
use Rattle.flat_circuit.specs.declared.origin.ListedClass.{ListedClass}
use Rattle.region_sim.specs.{declared.unit_simulation.UnitClass.UnitClass, OpenPlaces.KeepsClosed}
use Rattle.region_sim.specs.UnitHits.{AreClassesAt, AreClassesInOrder, AreClassesOpen}
use Rattle.region_sim.specs.UnitHits.{AreClassesStill, HaveArrivedInUnit, HaveTakenBeside}
use Rattle.region_sim.specs.{UnitHits.IsTakenOrCame, Units.{ArrivesInUnit, unit_span}}
use Rattle.block_sim.specs.Parts.{Parts}
use Rattle.region_sim.proofs.FollowedRows as rows_followed

-- ---- one row more
module _ {K : Type 0} (is_open : K → Bool) (means : (ℕ → Bool) → ℕ → ℕ → K → Type 0) (job : Parts)
    (group : ℕ) (row : ListedClass) (p : ℕ) (was classes : List UnitClass) (old now : List K)
    (step : IsTakenOrCame means job group row p was classes old now) where
  abbrev class_of : UnitClass → ℕ
  class_of one = one.class

  abbrev place_of : UnitClass → ℕ
  place_of one = one.place

  abbrev Came : UnitClass → Type 0
  Came one = ArrivesInUnit job group row.stem one.class (number one.lanes)

  pub as_many : length now ≡ length old
  as_many = rows_followed.as_many is_open means class_of place_of Came job (unit_span group) row p
      was classes old now step

  pub one_more : length classes ≤ length was + 1
  one_more = rows_followed.one_more is_open means class_of place_of Came job (unit_span group) row p
      was classes old now step

  pub arrived_more : (stem : ℕ) → row.stem ≡ stem → HaveArrivedInUnit job group stem was
      → HaveArrivedInUnit job group stem classes
  arrived_more stem of =
      rows_followed.each_more is_open means class_of place_of Came job (unit_span group) row p was
      classes old now step
      (λ (one : UnitClass). ArrivesInUnit job group stem one.class (number one.lanes))
      (λ one class place came.
      subst (λ s. ArrivesInUnit job group s one.class (number one.lanes)) of came)

  pub taken_more : (rows : List ListedClass) (before : List K) (from : ℕ)
      → slice_get rows p ≡ Some row → slice_get old p ≡ slice_get before p
      → HaveTakenBeside is_open means job group rows was from p before old
      → HaveTakenBeside is_open means job group rows classes from (p + 1) before now
  taken_more = rows_followed.taken_more is_open means class_of place_of Came job (unit_span group)
      row p was classes old now step

  pub others_more : (from : ℕ) (first : List K) → from ≤ p
      → ((place : ℕ) → (place < from) ⊎ (p ≤ place) → slice_get old place ≡ slice_get first place)
      → (place : ℕ) → (place < from) ⊎ (p + 1 ≤ place) → slice_get now place ≡ slice_get first place
  others_more = rows_followed.others_more is_open means class_of place_of Came job (unit_span group)
      row p was classes old now step

  pub closed_more : (first : List K) (own : K) → slice_get first p ≡ Some own
      → is_open own ≡ true → KeepsClosed is_open first old → KeepsClosed is_open first now
  closed_more = rows_followed.closed_more is_open means class_of place_of Came job (unit_span group)
      row p was classes old now step

  pub open_more : (first : List K) (own : K) → slice_get first p ≡ Some own → is_open own ≡ true
      → AreClassesOpen is_open first was → AreClassesOpen is_open first classes
  open_more first own own_is wanted =
      rows_followed.each_more is_open means class_of place_of Came job (unit_span group) row p was
      classes old now step
      (λ (one : UnitClass). (x : K) × (slice_get first one.place ≡ Some x) × (is_open x ≡ true))
      (λ one class place came. (own, ap (slice_get first) place ∙ own_is, wanted))

  module _ (rows : List ListedClass) (from : ℕ) (after : from ≤ p)
      (is : slice_get rows p ≡ Some row) (at : AreClassesAt rows from p was) where
    pub at_more : AreClassesAt rows from (p + 1) classes
    at_more =
        rows_followed.each_more is_open means class_of place_of Came job (unit_span group) row p was
        classes old now step (λ (one : UnitClass). (from ≤ one.place) × (one.place < p + 1)
        × (r : ListedClass) × (slice_get rows one.place ≡ Some r) × (r.class ≡ one.class))
        (λ one class place came. (
          omega (arith, place, after),
          omega (arith, place),
          row,
          ap (slice_get rows) place ∙ is,
          sym class,
        )) (λ one there. let b = at one there in let lt = b.1 in
        (b.0, omega (arith, lt), b.2, b.3, b.4))

    pub order_more : AreClassesInOrder was → AreClassesInOrder classes
    order_more = rows_followed.order_more is_open means class_of place_of Came job (unit_span group)
        row p was classes old now step (λ one there. (at one there).1)

    pub still_more : (before : List K) → slice_get old p ≡ slice_get before p
        → AreClassesStill was before old → AreClassesStill classes before now
    still_more before agree = rows_followed.still_more is_open means class_of place_of Came job
        (unit_span group) row p was classes old now step before agree
        (λ one there. (at one there).1)

-- ---- over places whose classes are settled
pub at_over : (rows : List ListedClass) (from p q : ℕ) (classes : List UnitClass) → p ≤ q
    → AreClassesAt rows from p classes → AreClassesAt rows from q classes
at_over rows from p q classes up before one there =
    let b = before one there in let lt = b.1 in (b.0, omega (arith, lt, up), b.2, b.3, b.4)
