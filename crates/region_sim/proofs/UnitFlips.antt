-- What the complemented stem of a unit tells of the classes that came to it, and the gates that it
-- makes active.
use Rattle.std.proofs.Common.{◌≡◌, ◌≢◌, ◌<◌, ◌≤◌, ◌/◌, ◌⊎◌, inl, inr, ℕ, refl, sym, ◌∙◌, ap, subst}
use Rattle.std.proofs.Common.{Bool, List, [], ◌∷◌, length, arith, true, false}
use Rattle.std.specs.Prelude.{◌↔◌, Contains, Some, bit_and, slice_get, slice_index_or}
use Rattle.std.proofs.lemmas.{Bool.cases_eq, Option.slice_get-get_or}
use Rattle.list_lemmas.proofs.Members.{Among, among, contained}
use Rattle.bench_net.specs.{Circuit.IsWellFormed, Scan.names, Statement.Statement}
use Rattle.fault_model.specs.Reordered.{IsReordered, place}
use Rattle.wide_words.specs.{Lanes.{lane_in, slot_of}, Layouts.both_layout, Wide.number}
use Rattle.flat_circuit.specs.{declared.block_span.BlockSpan.BlockSpan, Readers.IsObserved}
use Rattle.flat_circuit.specs.{declared.origin.ListedClass.ListedClass, Words.{lane, test_of}}
use Rattle.region_sim.specs.declared.{pack.Slot.Slot, unit_simulation.UnitClass.UnitClass}
use Rattle.region_sim.specs.{Goals.{HasTakenAt, HasTakenSpan}, OpenPlaces.AreSettled}
use Rattle.region_sim.specs.{Pack.{AreSlots, TellsPack, stem_at}, RegionHits.HaveTakenOpen}
use Rattle.region_sim.specs.UnitHits.{AreClassesAt, AreClassesStill, AreParted, AreUnitConcluded}
use Rattle.region_sim.specs.UnitHits.{HasTakenUnitAt, HaveArrivedInUnit, HaveTakenBeside, IsClassAt}
use Rattle.region_sim.specs.{UnitHits.IsPartIn, Units.{group_in, lane_test, unit_span}}
use Rattle.region_sim.proofs.{FollowedRows.each_over, PackedRegions.stem_is}
use Rattle.region_sim.proofs.UnitApproaches.{lane_number, takes_unit, unit_arrived}
use Rattle.block_sim.specs.{declared.propagation.Followed.Followed, Parts.Parts, Flips.DetectsFlip}
use Rattle.block_sim.proofs.Public.{same_flips}

-- whether a class that came to the stem is that of a place
pub class_or_not : (classes : List UnitClass) (place : ℕ)
    → IsClassAt classes place ⊎ (IsClassAt classes place → ⊥)
class_or_not [] place = inr (λ h. let bad = h.1.1 in omega (arith, bad))
class_or_not (one ∷ classes) place = go (cases_eq one.place place) (class_or_not classes place)
  where
    go : (one.place ≡ place) ⊎ (one.place ≢ place)
        → IsClassAt classes place ⊎ (IsClassAt classes place → ⊥)
        → IsClassAt (one ∷ classes) place ⊎ (IsClassAt (one ∷ classes) place → ⊥)
    go (inl same) rest = inl (one, contained (one ∷ classes) one (inl refl), same)
    go (inr ne) (inl h) = inl (
      h.0,
      contained (one ∷ classes) h.0 (inr (among classes h.0 h.1)),
      h.2,
    )
    go (inr ne) (inr none) = inr (λ h. out h.0 h.2 (among (one ∷ classes) h.0 h.1))
      where
        out : (x : UnitClass) → x.place ≡ place → Among x (one ∷ classes) → ⊥
        out x at (inl same) = ne (ap (λ (y : UnitClass). y.place) same ∙ at)
        out x at (inr there) = none (x, contained classes x there, at)

-- places whose classes are settled have no open row
pub settled_taken : {K : Type 0} (is_open : K → Bool) (means : (ℕ → Bool) → ℕ → ℕ → K → Type 0)
    (job : Parts) (span : BlockSpan) (rows : List ListedClass) (from to : ℕ) (before now : List K)
    → AreSettled is_open before from to
    → HaveTakenOpen is_open means job span rows from to before now
settled_taken is_open means job span rows from to before now settled =
    each_over is_open rows before from from to (λ place row. HasTakenAt means job span row
    before now place) settled (λ place row le lt idle. absurd (omega (arith, le, lt)))

-- if no class came to the stem, all is taken
pub none_came : {K : Type 0} (is_open : K → Bool) (means : (ℕ → Bool) → ℕ → ℕ → K → Type 0)
    (job : Parts) (group : ℕ) (rows : List ListedClass) (classes : List UnitClass) (from to : ℕ)
    (before now : List K) → classes ≡ []
    → HaveTakenBeside is_open means job group rows classes from to before now
    → HaveTakenOpen is_open means job (unit_span group) rows from to before now
none_came is_open means job group rows classes from to before now none so place row le lt idle =
    go (so place row le lt idle)
  where
    go : HasTakenAt means job (unit_span group) row before now place
        ⊎ (IsClassAt classes place × (slice_get now place ≡ slice_get before place))
        → HasTakenAt means job (unit_span group) row before now place
    go (inl h) = h
    go (inr h) =
        let there = h.0.1.1 in
        let empty = ap length none in absurd (omega (arith, there, empty))

-- ---- the slots of a unit have one stem
module _ (stem : ℕ) (classes : List UnitClass) (slots : List Slot) (followed : List Followed)
    (parted : AreParted stem classes slots followed) where
  pub stem_in : (k : ℕ) → k < 512 → stem_at both_layout slots k ≡ stem
  stem_in k lt =
      let blank : Slot = record { stem = 0; begin = 0; end = 0 } in
      let i = slot_of both_layout k in
      let many = parted.many in
      let low : i < length slots = omega (arith, lt, many) in
      stem_is both_layout slots i (slice_index_or slots i blank)
      (slice_get-get_or slots i blank low) k refl ∙ parted.stems i blank low

  -- they stand in a wide word, if the stem is a signal that is not observed
  pub unit_slots : (d : List Statement) → stem < length (names d) → (IsObserved d stem → ⊥)
      → AreSlots both_layout d slots followed
  unit_slots d within hidden = record {
    few = (let many = parted.many in omega (arith, many));
    within = parted.within;
    signals = λ i slot lt. (let same = parted.stems i slot lt in omega (arith, same, within));
    hidden = λ i slot lt o. hidden (subst (IsObserved d) (parted.stems i slot lt) o);
  }

  -- what is found of all classes that came to it
  module _ (job : Parts) (d : List Statement) (well : IsWellFormed job.circuit)
      (is : IsReordered job.circuit d) (group signal : ℕ)
      (moved : stem ≡ place job.circuit d signal) (seen : ℕ) (every : Bool)
      (told : TellsPack every both_layout d job.tests.tests (group_in group) slots followed
      seen) where
    flips : (k : ℕ) → k < 512 → DetectsFlip job.circuit (test_of job.tests.tests group k) signal
        ↔ DetectsFlip d (lane_test job.tests.tests both_layout (group_in group) k)
        (stem_at both_layout slots k)
    flips k lt =
        let tests = job.tests.tests in
        let same = (same_flips job.circuit d well is).detected (test_of tests group k) signal in
        let at : stem_at both_layout slots k ≡ place job.circuit d signal =
        stem_in k lt ∙ moved in (
          λ h. subst (DetectsFlip d (lane_test tests both_layout (group_in group) k)) (sym at)
              (subst (λ t. DetectsFlip d t (place job.circuit d signal))
              (sym (lane_number tests group k)) (same.0 h)),
          λ h. same.1 (subst (λ t. DetectsFlip d t (place job.circuit d signal))
              (lane_number tests group k)
              (subst (DetectsFlip d (lane_test tests both_layout (group_in group) k)) at h)),
        )

    right : (k : ℕ) → k < 512 → lane seen k ≡ true
        → DetectsFlip job.circuit (test_of job.tests.tests group k) signal
    right k lt e =
        let many = parted.many in
        (flips k lt).1 (told.found k lt e (omega (arith, lt, many)))

    missed : (one : UnitClass) → Contains classes one → (k : ℕ) → k < 512
        → lane (number one.lanes) k ≡ true → lane seen k ≡ false
        → (every ≡ true) ⊎ ((j : ℕ) → j < k → j / 128 ≡ k / 128
        → lane (number one.lanes) j ≡ true → lane seen j ≡ false)
        → ¬ DetectsFlip job.circuit (test_of job.tests.tests group k) signal
    missed one member k lt on off least d =
        let own = parted.each one k member lt on in
        told.clear k own.0 lt own.1 off (least_of own.0 own.2 least) ((flips k lt).0 d)
      where
        least_of : (part : Followed) → IsPartIn one k part
            → (every ≡ true) ⊎ ((j : ℕ) → j < k → j / 128 ≡ k / 128
            → lane (number one.lanes) j ≡ true → lane seen j ≡ false)
            → (every ≡ true) ⊎ ((j : ℕ) → j < 512 → slot_of both_layout j ≡ slot_of both_layout k
            → lane_in both_layout j ≤ lane_in both_layout k
            → lane part.lanes (lane_in both_layout j) ≡ true → lane seen j ≡ false)
        least_of part is (inl all) = inl all
        least_of part is (inr none) = inr (λ j less same le lit.
            go j same (sym (is j less same) ∙ lit) (omega (arith, same, le)) (cases_eq j k))
          where
            go : (j : ℕ) → j / 128 ≡ k / 128 → lane (number one.lanes) j ≡ true → j ≤ k
                → (j ≡ k) ⊎ (j ≢ k) → lane seen j ≡ false
            go j same lit le (inl here) = ap (lane seen) here ∙ off
            go j same lit le (inr ne) = none j (omega (arith, le, ne)) same lit

    module _ {K : Type 0} (is_open : K → Bool) (means : (ℕ → Bool) → ℕ → ℕ → K → Type 0)
        (rows : List ListedClass) (from to : ℕ) (before mid now : List K)
        (arrived : HaveArrivedInUnit job group signal classes)
        (at : AreClassesAt rows from to classes)
        (so : HaveTakenBeside is_open means job group rows classes from to before mid)
        (still : AreClassesStill classes before mid)
        (others : (place : ℕ) → (IsClassAt classes place → ⊥)
        → slice_get now place ≡ slice_get mid place)
        (concluded : AreUnitConcluded every means group seen classes mid now) where
      pub taken_in_unit : HaveTakenOpen is_open means job (unit_span group) rows from to before now
      taken_in_unit place row le lt idle = go (class_or_not classes place)
        where
          untouched : (IsClassAt classes place → ⊥)
              → HasTakenAt means job (unit_span group) row before mid place
              ⊎ (IsClassAt classes place × (slice_get mid place ≡ slice_get before place))
              → HasTakenAt means job (unit_span group) row before now place
          untouched none (inl h) = (h.0, h.1, h.2, others place none ∙ h.3, h.4)
          untouched none (inr h) = absurd (none h.0)

          go : IsClassAt classes place ⊎ (IsClassAt classes place → ⊥)
              → HasTakenAt means job (unit_span group) row before now place
          go (inr none) = untouched none (so place row le lt idle)
          go (inl h) =
              let one = h.0 in
              let own = at one h.1 in
              let both : Some own.2 ≡ Some row = sym own.3 ∙ (ap (slice_get rows) h.2
              ∙ idle.row_is) in
              let same : own.2 ≡ row = cc in
              let class : one.class ≡ row.class =
              sym own.4 ∙ ap (λ (r : ListedClass). r.class) same in
              let t = subst (HasTakenUnitAt every means group (bit_and (number one.lanes) seen) mid
              now) h.2 (concluded one h.1) in
              let unchanged = subst (λ n. slice_get mid n ≡ slice_get before n) h.2
              (still one h.1) in (
                t.0,
                t.1,
                sym unchanged ∙ t.2,
                t.3,
                subst (λ n. HasTakenSpan means job (unit_span group) n t.0 t.1) class
                    (takes_unit every means job group one.class (bit_and (number one.lanes) seen)
                    t.0 t.1 t.4 (λ hits are. unit_arrived job group one.class every hits are signal
                    (number one.lanes) seen (arrived one h.1) (λ k low on e. right k low e)
                    (missed one h.1))),
              )
