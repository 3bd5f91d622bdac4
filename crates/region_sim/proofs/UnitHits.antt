-- What is taken of classes on a unit, class by class and group by group.
use Rattle.std.proofs.Common.{◌≡◌, ◌≢◌, ◌<◌, ◌≤◌, ◌+◌, ◌-◌, ◌*◌, ◌/◌, ◌%◌, ◌⊎◌, inl, inr, ℕ, Bool}
use Rattle.std.proofs.Common.{true, false, sym, ◌∙◌, ap, subst, List, length, arith}
use Rattle.std.{specs.Prelude.{Some, bit_and, slice_get, unwrap_or}, proofs.lemmas.Bool.cases_eq}
use Rattle.wide_words.specs.{Lanes.{lane_in, slot_of}, Layouts.both_layout, Wide.number}
use Rattle.flat_circuit.specs.Words.{lane}
use Rattle.region_sim.specs.{declared.unit_simulation.UnitClass.UnitClass, Goals.TellHits}
use Rattle.region_sim.specs.RegionHits.{HasTakenWord}
use Rattle.region_sim.specs.UnitHits.{AreClassesInOrder, HasTakenUnitAt, TellUnitHits}

-- ---- one group of a unit
module _ (all : Bool) (hits : ℕ → Bool) (group wide slot part : ℕ) (few : slot < 4)
    (tells : TellUnitHits all hits group wide)
    (own : (k : ℕ) → k < 512 → slot_of both_layout k ≡ slot
    → lane part (lane_in both_layout k) ≡ lane wide k) where
  -- a lane of the group is one of the unit
  at_lane : (k : ℕ) → k < 128 → lane part k ≡ lane wide (128 * slot + k)
  at_lane k lt =
      let in_slot : (128 * slot + k) / 128 ≡ slot = omega (arith, lt) in
      let here : 0 + (128 * slot + k) % 128 ≡ k = omega (arith, lt) in
      ap (lane part) (sym here) ∙ own (128 * slot + k) (omega (arith, lt, few)) in_slot

  abbrev first : ℕ
  first = 128 * (group + slot)

  number_of : (k : ℕ) → 128 * group + (128 * slot + k) ≡ first + k
  number_of k = omega arith

  pub group_tells : TellHits all hits first first (first + 128) part
  group_tells = record {
    low = omega arith;
    ordered = omega arith;
    high = omega arith;
    right = λ k lt on. (
      omega arith,
      omega (arith, lt),
      ap hits (sym (number_of k))
          ∙ tells.right (128 * slot + k) (omega (arith, lt, few)) (sym (at_lane k lt) ∙ on),
    );
    whole = λ k from to hit least.
        let lt : k < 128 = omega (arith, to) in
        at_lane k lt ∙ tells.whole (128 * slot + k) (omega (arith, lt, few))
        (ap hits (number_of k) ∙ hit) (least_of k lt least);
  }
    where
      least_of : (k : ℕ) → k < 128 → (all ≡ true) ⊎ ((j : ℕ) → j < k → lane part j ≡ false)
          → (all ≡ true) ⊎ ((j : ℕ) → j < 128 * slot + k → j / 128 ≡ (128 * slot + k) / 128
          → lane wide j ≡ false)
      least_of k lt (inl every) = inl every
      least_of k lt (inr none) = inr (λ j less same.
          let here : (128 * slot + k) / 128 ≡ slot = omega (arith, lt) in
          let low : 128 * slot + (j - 128 * slot) ≡ j = omega (arith, same, here) in
          let below : j - 128 * slot < k = omega (arith, less, low) in
          ap (lane wide) (sym low) ∙ (sym (at_lane (j - 128 * slot) (omega (arith, below, lt)))
          ∙ none (j - 128 * slot) below))

-- the first so many groups of a unit were taken at a place
pub record AreGroupsTaken {K : Type 0} (all : Bool) (means : (ℕ → Bool) → ℕ → ℕ → K → Type 0)
    (group wide slot place : ℕ) (first now : List K) : Type 0 where
  pub count : length now ≡ length first
  pub within : slot ≤ 4
  pub others : (other : ℕ) → other ≢ place → slice_get now other ≡ slice_get first other
  pub old : K
  pub new : K
  pub old_is : slice_get first place ≡ Some old
  pub new_is : slice_get now place ≡ Some new
  pub taken : (hits : ℕ → Bool) (low : ℕ) → low ≤ 128 * group → TellUnitHits all hits group wide
      → means hits low (128 * group) old → means hits low (128 * (group + slot)) new

pub groups_more : {K : Type 0} (all : Bool) (means : (ℕ → Bool) → ℕ → ℕ → K → Type 0)
    (group wide slot place part : ℕ) (first before now : List K) → slot < 4
    → ((k : ℕ) → k < 512 → slot_of both_layout k ≡ slot
    → lane part (lane_in both_layout k) ≡ lane wide k) → length now ≡ length before
    → ((other : ℕ) → other ≢ place → slice_get now other ≡ slice_get before other)
    → HasTakenWord all means (group + slot) part before now place
    → AreGroupsTaken all means group wide slot place first before
    → AreGroupsTaken all means group wide (slot + 1) place first now
groups_more {K} all means group wide slot place part first before now few own count others
    took was =
    record {
      count = count ∙ was.count;
      within = omega (arith, few);
      others = λ other ne. others other ne ∙ was.others other ne;
      old = was.old;
      new = took.1;
      old_is = was.old_is;
      new_is = took.3;
      taken = λ hits low le tells so.
          let both : Some was.new ≡ Some took.0 = sym was.new_is ∙ took.2 in
          let same : was.new ≡ took.0 = ap (λ o. unwrap_or o was.new) both in
          let begin = 128 * (group + slot) in
          let next : begin + 128 ≡ 128 * (group + (slot + 1)) = omega arith in
          subst (λ n. means hits low n took.1) next
          (took.4 hits low begin (begin + 128) (omega (arith, le))
          (group_tells all hits group wide slot part few tells own)
          (subst (means hits low begin) same (was.taken hits low le tells so)));
    }

-- ---- class by class
-- the units of the first so many of the classes were taken
pub record AreUnitsTaken {K : Type 0} (all : Bool) (means : (ℕ → Bool) → ℕ → ℕ → K → Type 0)
    (group seen : ℕ) (classes : List UnitClass) (n : ℕ) (first now : List K) : Type 0 where
  pub count : length now ≡ length first
  pub others : (place : ℕ) → ((i : ℕ) (one : UnitClass) → i < n → slice_get classes i ≡ Some one
      → one.place ≡ place → ⊥) → slice_get now place ≡ slice_get first place
  pub taken : (i : ℕ) (one : UnitClass) → i < n → slice_get classes i ≡ Some one
      → HasTakenUnitAt all means group (bit_and (number one.lanes) seen) first now one.place

pub units_more : {K : Type 0} (all : Bool) (means : (ℕ → Bool) → ℕ → ℕ → K → Type 0)
    (group seen : ℕ) (classes : List UnitClass) (n : ℕ) (first before now : List K)
    (one : UnitClass) → AreClassesInOrder classes → slice_get classes n ≡ Some one
    → length now ≡ length before
    → ((other : ℕ) → other ≢ one.place → slice_get now other ≡ slice_get before other)
    → HasTakenUnitAt all means group (bit_and (number one.lanes) seen) before now one.place
    → AreUnitsTaken all means group seen classes n first before
    → AreUnitsTaken all means group seen classes (n + 1) first now
units_more all means group seen classes n first before now one ordered at count others took was =
    record {
      count = count ∙ was.count;
      others = λ place none. others place (λ e. none n one (omega arith) at (sym e))
          ∙ was.others place (λ i x lt is e. none i x (omega (arith, lt)) is e);
      taken = λ i x lt is. go i x lt is (cases_eq i n);
    }
  where
    go : (i : ℕ) (x : UnitClass) → i < n + 1 → slice_get classes i ≡ Some x → (i ≡ n) ⊎ (i ≢ n)
        → HasTakenUnitAt all means group (bit_and (number x.lanes) seen) first now x.place
    go i x lt is (inl same) =
        let both : Some x ≡ Some one = sym is ∙ (ap (slice_get classes) same ∙ at) in
        let one_is : one ≡ x = ap (λ o. unwrap_or o one) (sym both) in
        let before_is = was.others one.place (λ j y low there e.
        let behind = ordered j n y one low there at in omega (arith, behind, e)) in
        subst (λ (y : UnitClass).
        HasTakenUnitAt all means group (bit_and (number y.lanes) seen) first now y.place)
        one_is (took.0, took.1, sym before_is ∙ took.2, took.3, took.4)
    go i x lt is (inr ne) =
        let low : i < n = omega (arith, lt, ne) in
        let t = was.taken i x low is in
        let behind = ordered i n x one low is at in (
          t.0,
          t.1,
          t.2,
          others x.place (λ e. omega (arith, behind, e)) ∙ t.3,
          t.4,
        )
