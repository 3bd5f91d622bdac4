-- What a simulation of regions finds out, by the places of a list of classes.
use Rattle.std.proofs.Common.{◌≡◌, ◌≢◌, ◌+◌, ◌*◌, ◌<◌, ◌≤◌, ◌⊎◌, inl, inr, ℕ, zero, suc, refl, sym}
use Rattle.std.proofs.Common.{◌∙◌, ap, subst, List, [], ◌∷◌, length, arith, All, Bool, Some, true}
use Rattle.std.{proofs.Common.false, specs.Prelude.{Contains, bit_and, slice_get, unwrap_or}}
use Rattle.std.proofs.lemmas.Bool.{cases_eq, cases_lt}
use Rattle.std.proofs.lemmas.Option.{get_or_from_slice_get, slice_get-get_or, slice_get_within}
use Rattle.list_lemmas.proofs.Members.{Among, among, contained}
use Rattle.flat_circuit.specs.{declared.origin.ListedClass.ListedClass, BlockSpans.group_of}
use Rattle.flat_circuit.specs.declared.block_span.BlockSpan.{BlockSpan}
use Rattle.block_sim.specs.{declared.propagation.Followed.Followed, Listed.IsListed, Parts.Parts}
use Rattle.region_sim.specs.{Arrivals.HasArrived, Goals.{HasTakenAt, HaveTaken}}
use Rattle.region_sim.specs.OpenPlaces.{AgreeFrom, AreNextOpen, AreSettled, AreSuccessors}
use Rattle.region_sim.specs.{OpenPlaces.KeepsClosed, RegionHits.IsTakenOrFollowed}
use Rattle.region_sim.specs.RegionHits.{AreFollowedAt, AreInOrder, AreOpen, AreStill, HasTakenWord}
use Rattle.region_sim.specs.RegionHits.{HaveStem, HaveTakenBut, HaveTakenOpen, IsFollowedAt}
use Rattle.region_sim.proofs.OneLane.{bit_cases}
use Rattle.region_sim.proofs.FollowedRows as rows_followed
pub use Rattle.list_lemmas.proofs.Places.{within_place as some_at}

-- ---- one row more
module _ {K : Type 0} (is_open : K → Bool) (means : (ℕ → Bool) → ℕ → ℕ → K → Type 0) (job : Parts)
    (span : BlockSpan) (rows : List ListedClass) (from p : ℕ) (row : ListedClass)
    (was followed : List Followed) (old now : List K) (is : slice_get rows p ≡ Some row)
    (after : from ≤ p) (step : IsTakenOrFollowed means job span row p was followed old now) where
  abbrev class_of : Followed → ℕ
  class_of one = one.class

  abbrev place_of : Followed → ℕ
  place_of one = one.place

  abbrev Came : Followed → Type 0
  Came one = HasArrived job span row.stem one.class one.lanes

  pub as_many : length now ≡ length old
  as_many = rows_followed.as_many is_open means class_of place_of Came job span row p was followed
      old now step

  pub taken_more : (before : List K) → slice_get old p ≡ slice_get before p
      → HaveTakenBut is_open means job span rows was from p before old
      → HaveTakenBut is_open means job span rows followed from (p + 1) before now
  taken_more before = rows_followed.taken_more is_open means class_of place_of Came job span row p
      was followed old now step rows before from is

  pub at_more : AreFollowedAt rows from p was → AreFollowedAt rows from (p + 1) followed
  at_more before =
      rows_followed.each_more is_open means class_of place_of Came job span row p was followed old
      now step (λ (one : Followed). (from ≤ one.place) × (one.place < p + 1)
      × (r : ListedClass) × (slice_get rows one.place ≡ Some r) × (r.class ≡ one.class))
      (λ one class place came. (
        omega (arith, place, after),
        omega (arith, place),
        row,
        ap (slice_get rows) place ∙ is,
        sym class,
      )) (λ one there. let b = before one there in let lt = b.1 in
      (b.0, omega (arith, lt), b.2, b.3, b.4))

  pub order_more : AreFollowedAt rows from p was → AreInOrder was → AreInOrder followed
  order_more at = rows_followed.order_more is_open means class_of place_of Came job span row p was
      followed old now step (λ one there. (at one there).1)

  pub still_more : (before : List K) → slice_get old p ≡ slice_get before p
      → AreFollowedAt rows from p was → AreStill was before old → AreStill followed before now
  still_more before agree at = rows_followed.still_more is_open means class_of place_of Came job
      span row p was followed old now step before agree (λ one there. (at one there).1)

  pub others_more : (first : List K)
      → ((place : ℕ) → (place < from) ⊎ (p ≤ place) → slice_get old place ≡ slice_get first place)
      → (place : ℕ) → (place < from) ⊎ (p + 1 ≤ place) → slice_get now place ≡ slice_get first place
  others_more first = rows_followed.others_more is_open means class_of place_of Came job span row p
      was followed old now step from first after

  -- what is no longer open stays, and of each that is followed something is open
  module _ (first : List K) (own : K) (own_is : slice_get first p ≡ Some own)
      (wanted : is_open own ≡ true) where
    pub closed_more : KeepsClosed is_open first old → KeepsClosed is_open first now
    closed_more = rows_followed.closed_more is_open means class_of place_of Came job span row p was
        followed old now step first own own_is wanted

    pub open_more : AreOpen is_open first was → AreOpen is_open first followed
    open_more =
        rows_followed.each_more is_open means class_of place_of Came job span row p was followed
        old now step
        (λ (one : Followed). (x : K) × (slice_get first one.place ≡ Some x) × (is_open x ≡ true))
        (λ one class place came. (own, ap (slice_get first) place ∙ own_is, wanted))

-- ---- what those that were followed are told
-- the list has what stands at a place
pub member_at : {X : Type 0} (xs : List X) (i : ℕ) (x : X) → slice_get xs i ≡ Some x → Contains xs x
member_at xs i x e =
    let lt = slice_get_within xs i x e in (i, lt, get_or_from_slice_get xs i x x e)

pub place_of_member : {X : Type 0} (xs : List X) (x : X) → Contains xs x
    → (i : ℕ) × (slice_get xs i ≡ Some x)
place_of_member xs x there = (there.0, slice_get-get_or xs there.0 x there.1 ∙ ap Some there.2)

-- the tests of the first so many of those that are followed were taken
pub record AreTakenBelow {K : Type 0} (all : Bool) (means : (ℕ → Bool) → ℕ → ℕ → K → Type 0)
    (span : BlockSpan) (seen : ℕ) (followed : List Followed) (n : ℕ) (first now : List K) :
    Type 0 where
  pub count : length now ≡ length first
  pub others : (place : ℕ) → ((i : ℕ) (one : Followed) → i < n → slice_get followed i ≡ Some one
      → one.place ≡ place → ⊥) → slice_get now place ≡ slice_get first place
  pub taken : (i : ℕ) (one : Followed) → i < n → slice_get followed i ≡ Some one
      → HasTakenWord all means (group_of span) (bit_and one.lanes seen) first now one.place

pub taken_below : {K : Type 0} (all : Bool) (means : (ℕ → Bool) → ℕ → ℕ → K → Type 0)
    (span : BlockSpan) (seen : ℕ) (followed : List Followed) (n : ℕ) (first before now : List K)
    (one : Followed) → AreInOrder followed → slice_get followed n ≡ Some one
    → length now ≡ length before
    → ((other : ℕ) → other ≢ one.place → slice_get now other ≡ slice_get before other)
    → HasTakenWord all means (group_of span) (bit_and one.lanes seen) before now one.place
    → AreTakenBelow all means span seen followed n first before
    → AreTakenBelow all means span seen followed (n + 1) first now
taken_below all means span seen followed n first before now one ordered at count others took was =
    record {
      count = count ∙ was.count;
      others = λ place none. others place (λ e. none n one (omega arith) at (sym e))
          ∙ was.others place (λ i x lt is e. none i x (omega (arith, lt)) is e);
      taken = λ i x lt is. go i x lt is (cases_eq i n);
    }
  where
    go : (i : ℕ) (x : Followed) → i < n + 1 → slice_get followed i ≡ Some x → (i ≡ n) ⊎ (i ≢ n)
        → HasTakenWord all means (group_of span) (bit_and x.lanes seen) first now x.place
    go i x lt is (inl same) =
        let both : Some x ≡ Some one = sym is ∙ (ap (slice_get followed) same ∙ at) in
        let one_is : one ≡ x = ap (λ o. unwrap_or o one) (sym both) in
        let before_is = was.others one.place (λ j y low there e.
        let behind = ordered j n y one low there at in omega (arith, behind, e)) in
        subst (λ (y : Followed).
        HasTakenWord all means (group_of span) (bit_and y.lanes seen) first now y.place)
        one_is (took.0, took.1, sym before_is ∙ took.2, took.3, took.4)
    go i x lt is (inr ne) =
        let low : i < n = omega (arith, lt, ne) in
        let t = was.taken i x low is in
        let behind = ordered i n x one low is at in (
          t.0,
          t.1,
          t.2,
          others x.place (λ e. omega (arith, behind, e)) ∙ t.3,
          t.4,
        )

-- a place is that of one of those that are followed, or of none
pub followed_or_not : (followed : List Followed) (place : ℕ)
    → IsFollowedAt followed place ⊎ (IsFollowedAt followed place → ⊥)
followed_or_not [] place = inr (λ h. let bad = h.1.1 in omega (arith, bad))
followed_or_not (one ∷ followed) place = go (cases_eq one.place place)
    (followed_or_not followed place)
  where
    go : (one.place ≡ place) ⊎ (one.place ≢ place)
        → IsFollowedAt followed place ⊎ (IsFollowedAt followed place → ⊥)
        → IsFollowedAt (one ∷ followed) place ⊎ (IsFollowedAt (one ∷ followed) place → ⊥)
    go (inl same) rest = inl (one, contained (one ∷ followed) one (inl refl), same)
    go (inr ne) (inl h) = inl (
      h.0,
      contained (one ∷ followed) h.0 (inr (among followed h.0 h.1)),
      h.2,
    )
    go (inr ne) (inr none) = inr (λ h. out h.0 h.2 (among (one ∷ followed) h.0 h.1))
      where
        out : (x : Followed) → x.place ≡ place → Among x (one ∷ followed) → ⊥
        out x at (inl same) = ne (ap (λ (y : Followed). y.place) same ∙ at)
        out x at (inr there) = none (x, contained followed x there, at)

-- each row stands for its class
pub listed_at : (job : Parts) (rows : List ListedClass) (i : ℕ) (row : ListedClass)
    → All (IsListed job) rows → slice_get rows i ≡ Some row → IsListed job row
listed_at job rows i row all e = subst (IsListed job) (get_or_from_slice_get rows i row row e)
    (all i row (slice_get_within rows i row e))

-- ---- over places whose classes are settled
pub settled_from : {K : Type 0} (is_open : K → Bool) (kept : List K) (p q : ℕ) (one : K)
    → slice_get kept p ≡ Some one → is_open one ≡ false → AreSettled is_open kept (p + 1) q
    → AreSettled is_open kept p q
settled_from {K} is_open kept p q one here closed after k le lt = go (cases_eq k p)
  where
    go : (k ≡ p) ⊎ (k ≢ p) → (x : K) × (slice_get kept k ≡ Some x) × (is_open x ≡ false)
    go (inl same) = (one, ap (slice_get kept) same ∙ here, closed)
    go (inr ne) = after k (omega (arith, le, ne)) lt

-- in a list that has the same from there on
pub settled_there : {K : Type 0} (is_open : K → Bool) (from p q : ℕ) (before now : List K)
    → from ≤ p → AgreeFrom from before now → AreSettled is_open now p q
    → AreSettled is_open before p q
settled_there is_open from p q before now up agree settled k le lt =
    let s = settled k le lt in (s.0, sym (agree k (omega (arith, up, le))) ∙ s.1, s.2)

-- places that lead on still do, if what is no longer open has stayed
pub next_still : {K : Type 0} (is_open : K → Bool) (before now : List K) (next : List ℕ)
    → length now ≡ length before → KeepsClosed is_open before now
    → AreNextOpen is_open before next → AreNextOpen is_open now next
next_still is_open before now next count keeps h = record {
  count = h.count ∙ sym count;
  following = h.following;
  within = λ p q e. (let le = h.within p q e in omega (arith, le, count));
  between = λ p q e k le lt.
      let s = h.between p q e k le lt in
      (s.0, keeps k s.0 s.1 s.2 ∙ s.1, s.2);
}

-- what stays as it was over two steps
pub closed_on : {K : Type 0} (is_open : K → Bool) (first before now : List K)
    → KeepsClosed is_open first before → KeepsClosed is_open before now
    → KeepsClosed is_open first now
closed_on is_open first before now a b place one is closed =
    let same = a place one is closed in b place one (same ∙ is) closed ∙ same

module _ {K : Type 0} (is_open : K → Bool) (rows : List ListedClass) (before : List K)
    (from p q : ℕ) (up : p ≤ q) (settled : AreSettled is_open before p q) where
  pub stems_over : (stem : ℕ) → HaveStem is_open rows before from p stem
      → HaveStem is_open rows before from q stem
  stems_over stem =
      rows_followed.each_over is_open rows before from p q (λ k row. row.stem ≡ stem) settled

  pub taken_over : (means : (ℕ → Bool) → ℕ → ℕ → K → Type 0) (job : Parts) (span : BlockSpan)
      (followed : List Followed) (now : List K)
      → HaveTakenBut is_open means job span rows followed from p before now
      → HaveTakenBut is_open means job span rows followed from q before now
  taken_over means job span followed now = rows_followed.each_over is_open rows before from p q
      (λ k row. HasTakenAt means job span row before now k
      ⊎ (IsFollowedAt followed k × (slice_get now k ≡ slice_get before k))) settled

pub at_over : (rows : List ListedClass) (from p q : ℕ) → p ≤ q → (followed : List Followed)
    → AreFollowedAt rows from p followed → AreFollowedAt rows from q followed
at_over rows from p q up followed before one there = let b = before one there in let low = b.1 in
    (b.0, omega (arith, low, up), b.2, b.3, b.4)

pub others_over : {K : Type 0} (from p q : ℕ) → p ≤ q → (now first : List K)
    → ((place : ℕ) → (place < from) ⊎ (p ≤ place) → slice_get now place ≡ slice_get first place)
    → (place : ℕ) → (place < from) ⊎ (q ≤ place) → slice_get now place ≡ slice_get first place
others_over from p q up now first before place (inl lt) = before place (inl lt)
others_over from p q up now first before place (inr le) = before place (inr (omega (arith, le, up)))

-- one row more of the stem
pub stems_more : {K : Type 0} (is_open : K → Bool) (rows : List ListedClass) (kept : List K)
    (from p stem : ℕ) (row : ListedClass)
    → slice_get rows p ≡ Some row → row.stem ≡ stem → HaveStem is_open rows kept from p stem
    → HaveStem is_open rows kept from (p + 1) stem
stems_more is_open rows kept from p stem row is of before k other le lt idle = go (cases_eq k p)
  where
    go : (k ≡ p) ⊎ (k ≢ p) → other.stem ≡ stem
    go (inl same) =
        let both : Some other ≡ Some row = sym idle.row_is ∙ (ap (slice_get rows) same ∙ is) in
        let one : other ≡ row = cc in
        ap (λ (r : ListedClass). r.stem) one ∙ of
    go (inr ne) = before k other le (omega (arith, lt, ne)) idle

-- the tests of a span were taken of all classes: of those of which nothing is open nothing changed
pub all_taken : {K : Type 0} (is_open : K → Bool) (means : (ℕ → Bool) → ℕ → ℕ → K → Type 0)
    (job : Parts) (span : BlockSpan) (rows : List ListedClass) (from to : ℕ) (before now : List K)
    → span.first ≤ span.last
    → ((one : K) → is_open one ≡ false → (hits : ℕ → Bool) (low high more : ℕ) → high ≤ more
    → means hits low high one → means hits low more one)
    → length before ≡ length rows → KeepsClosed is_open before now
    → HaveTakenOpen is_open means job span rows from to before now
    → HaveTaken means job span rows from to before now
all_taken {K} is_open means job span rows from to before now up law count keeps so place row le lt
    at = go (bit_cases (is_open one.0))
  where
    one : (x : K) × (slice_get before place ≡ Some x)
    one = some_at before place (let low = slice_get_within rows place row at in
        omega (arith, low, count))

    go : (is_open one.0 ≡ true) ⊎ (is_open one.0 ≡ false)
        → HasTakenAt means job span row before now place
    go (inl wanted) = so place row le lt
        (record { row_is = at; one = one.0; kept_is = one.1; wanted = wanted })
    go (inr closed) = (
      one.0,
      one.0,
      one.1,
      keeps place one.0 one.1 closed ∙ one.1,
      λ hits low h le was. law one.0 closed hits low (64 * span.first) (64 * span.last + 64)
          (omega (arith, up)) was,
    )

-- the tests were taken up to a place, and then from there to another one
pub taken_on : {K : Type 0} (means : (ℕ → Bool) → ℕ → ℕ → K → Type 0) (job : Parts)
    (span : BlockSpan) (rows : List ListedClass) (from to : ℕ) (first before now : List K)
    → HaveTaken means job span rows 0 from first before
    → ((place : ℕ) → from ≤ place → slice_get before place ≡ slice_get first place)
    → HaveTaken means job span rows from to before now
    → ((place : ℕ) → (place < from) ⊎ (to ≤ place) → slice_get now place ≡ slice_get before place)
    → HaveTaken means job span rows 0 to first now
taken_on means job span rows from to first before now was later more others place row le lt at =
    go (cases_lt place from)
  where
    go : (place < from) ⊎ (from ≤ place) → HasTakenAt means job span row first now place
    go (inl low) =
        let t = was place row le low at in
        (t.0, t.1, t.2, others place (inl low) ∙ t.3, t.4)
    go (inr up) =
        let t = more place row up lt at in
        (t.0, t.1, sym (later place up) ∙ t.2, t.3, t.4)

-- no place has an open one between it and the one after it
pub successors_open : {K : Type 0} (is_open : K → Bool) (kept : List K) (next : List ℕ)
    → length next ≡ length kept → AreSuccessors next → AreNextOpen is_open kept next
successors_open is_open kept next count are = record {
  count = count;
  following = λ p q e. (let is = are p q e in omega (arith, is));
  within = λ p q e. (let is = are p q e in let lt = slice_get_within next p q e in
      omega (arith, is, lt, count));
  between = λ p q e k le lt. (let is = are p q e in absurd (omega (arith, is, le, lt)));
}
