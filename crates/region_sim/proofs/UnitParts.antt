-- The parts that classes have in a slot of a unit, class by class.
use Rattle.std.proofs.Common.{◌≡◌, ◌<◌, ◌≤◌, ◌+◌, ◌⊎◌, ℕ, sym, ◌∙◌, ap, subst, List, [], ◌∷◌, ◌++◌}
use Rattle.std.proofs.Common.{length, length-append, arith, inl, inr, refl, true}
use Rattle.std.specs.Prelude.{Contains, Option, Some, slice_get, unwrap_or}
use Rattle.std.proofs.lemmas.{Bool.false≢true, Option.slice_get_within}
use Rattle.wide_words.specs.{Lanes.{lane_in, slot_of}, Layouts.both_layout, Wide.number}
use Rattle.block_sim.specs.declared.propagation.Followed.{Followed}
use Rattle.region_sim.specs.declared.{unit_simulation.UnitClass.UnitClass, pack.Slot.Slot}
use Rattle.region_sim.specs.{Pack.{IsIn, IsWithin}, UnitHits.{ArePartsAdded, IsPartIn}}
use Rattle.region_sim.proofs.{RegionHits.member_at, ListParts.{get_left, get_right}}
use Rattle.flat_circuit.{specs.Words.lane, proofs.Public.{lane_zero, pushed_get, at_end}}

-- the parts of the first n classes
pub record ArePartsOf (slot : ℕ) (classes : List UnitClass) (n : ℕ)
    (before now : List Followed) : Type 0 where
  pub more : length before ≤ length now
  pub few : length now ≤ length before + n
  pub kept : (i : ℕ) → i < length before → slice_get now i ≡ slice_get before i
  pub each : (m : ℕ) (one : UnitClass) (k : ℕ) → m < n → slice_get classes m ≡ Some one → k < 512
      → slot_of both_layout k ≡ slot → lane (number one.lanes) k ≡ true
      → (i : ℕ) × (part : Followed) × (length before ≤ i) × (i < length now)
      × (slice_get now i ≡ Some part) × IsPartIn one k part
  pub only : (i : ℕ) (part : Followed) → length before ≤ i → slice_get now i ≡ Some part
      → (one : UnitClass) × Contains classes one
      × ((k : ℕ) → k < 512 → slot_of both_layout k ≡ slot → IsPartIn one k part)

pub parts_none : (slot : ℕ) (classes : List UnitClass) (before : List Followed)
    → ArePartsOf slot classes 0 before before
parts_none slot classes before = record {
  more = omega arith;
  few = omega arith;
  kept = λ i lt. refl;
  each = λ m one k lt. absurd (omega (arith, lt));
  only = λ i part le is. (let lt = slice_get_within before i part is in
      absurd (omega (arith, le, lt)));
}

module _ (slot : ℕ) (classes : List UnitClass) (n : ℕ) (before now : List Followed)
    (h : ArePartsOf slot classes n before now) (one : UnitClass)
    (at : slice_get classes n ≡ Some one) (lanes : ℕ)
    (own : (k : ℕ) → k < 512 → slot_of both_layout k ≡ slot
    → lane lanes (lane_in both_layout k) ≡ lane (number one.lanes) k) where
  same_one : (m : ℕ) (other : UnitClass) → m ≡ n → slice_get classes m ≡ Some other → other ≡ one
  same_one m other e is =
      let both : Some other ≡ Some one = sym is ∙ (ap (slice_get classes) e ∙ at) in
      ap (λ (o : Option UnitClass). unwrap_or o other) both

  -- a class without a lane has no part
  pub parts_skipped : lanes ≡ 0 → ArePartsOf slot classes (n + 1) before now
  parts_skipped none = record {
    more = h.more;
    few = (let few = h.few in omega (arith, few));
    kept = h.kept;
    each = λ m other k lt is low here on. go m other k is low here on (at_end n m lt);
    only = h.only;
  }
    where
      go : (m : ℕ) (other : UnitClass) (k : ℕ) → slice_get classes m ≡ Some other → k < 512
          → slot_of both_layout k ≡ slot → lane (number other.lanes) k ≡ true → (m < n) ⊎ (m ≡ n)
          → (i : ℕ) × (part : Followed) × (length before ≤ i) × (i < length now)
          × (slice_get now i ≡ Some part) × IsPartIn other k part
      go m other k is low here on (inl lt) = h.each m other k lt is low here on
      go m other k is low here on (inr e) =
          let same = same_one m other e is in
          absurd (false≢true (sym (lane_zero (lane_in both_layout k))
          ∙ (sym (ap (λ w. lane w (lane_in both_layout k)) none)
          ∙ (own k low here ∙ (ap (λ (x : UnitClass). lane (number x.lanes) k) (sym same) ∙ on)))))

  -- any other has one
  module _ (part : Followed) (has : part.lanes ≡ lanes) where
    abbrev after : List Followed
    after = now ++ part ∷ []

    long : length after ≡ length now + 1
    long = length-append now (part ∷ [])

    is_part : (k : ℕ) → k < 512 → slot_of both_layout k ≡ slot → IsPartIn one k part
    is_part k low here j less same =
        ap (λ w. lane w (lane_in both_layout j)) has ∙ own j less (same ∙ here)

    last : slice_get after (length now) ≡ Some part
    last = let place : length now ≡ length now + 0 = omega arith in
        ap (slice_get after) place ∙ get_right now (part ∷ []) 0

    pub parts_pushed : ArePartsOf slot classes (n + 1) before after
    parts_pushed = record {
      more = (let more = h.more in omega (arith, more, long));
      few = (let few = h.few in omega (arith, few, long));
      kept = λ i lt. (let more = h.more in
          get_left now (part ∷ []) i (omega (arith, lt, more)) ∙ h.kept i lt);
      each = λ m other k lt is low here on. go m other k is low here on (at_end n m lt);
      only = λ i other le is. old i other le (pushed_get now part other i is);
    }
      where
        go : (m : ℕ) (other : UnitClass) (k : ℕ) → slice_get classes m ≡ Some other → k < 512
            → slot_of both_layout k ≡ slot → lane (number other.lanes) k ≡ true → (m < n) ⊎ (m ≡ n)
            → (i : ℕ) × (x : Followed) × (length before ≤ i) × (i < length after)
            × (slice_get after i ≡ Some x) × IsPartIn other k x
        go m other k is low here on (inl lt) =
            let was = h.each m other k lt is low here on in
            let less = was.3 in (
              was.0,
              was.1,
              was.2,
              omega (arith, less, long),
              get_left now (part ∷ []) was.0 less ∙ was.4,
              was.5,
            )
        go m other k is low here on (inr e) =
            let more = h.more in (
              length now,
              part,
              more,
              omega (arith, long),
              last,
              subst (λ x. IsPartIn x k part) (sym (same_one m other e is)) (is_part k low here),
            )

        old : (i : ℕ) (other : Followed) → length before ≤ i
            → (slice_get now i ≡ Some other) ⊎ ((i ≡ length now) × (part ≡ other))
            → (x : UnitClass) × Contains classes x
            × ((k : ℕ) → k < 512 → slot_of both_layout k ≡ slot → IsPartIn x k other)
        old i other le (inl is) = h.only i other le is
        old i other le (inr new) = (
          one,
          member_at classes n one at,
          λ k low here. subst (IsPartIn one k) new.1 (is_part k low here),
        )

-- ---- slot by slot
pub record AreSlotsSoFar (stem : ℕ) (classes : List UnitClass) (n : ℕ) (slots : List Slot)
    (followed : List Followed) : Type 0 where
  pub many : length slots ≡ n
  pub stems : (i : ℕ) (s : Slot) → slice_get slots i ≡ Some s → s.stem ≡ stem
  pub within : (i : ℕ) (s : Slot) → slice_get slots i ≡ Some s → IsWithin followed s
  pub each : (one : UnitClass) (k : ℕ) → Contains classes one → k < 512
      → slot_of both_layout k < n → lane (number one.lanes) k ≡ true
      → (part : Followed) × IsIn both_layout slots followed k part × IsPartIn one k part
  pub only : (k : ℕ) (part : Followed) → k < 512 → IsIn both_layout slots followed k part
      → (one : UnitClass) × Contains classes one × (lane (number one.lanes) k ≡ true)

module _ (stem : ℕ) (classes : List UnitClass) (n : ℕ) (slots : List Slot)
    (followed after : List Followed) (h : AreSlotsSoFar stem classes n slots followed)
    (added : ArePartsAdded n classes followed after) (slot : Slot) (of : slot.stem ≡ stem)
    (begin : slot.begin ≡ length followed) (end : slot.end ≡ length after) where
  still : (k : ℕ) (part : Followed) → IsIn both_layout slots followed k part
      → IsIn both_layout (slots ++ slot ∷ []) after k part
  still k part own =
      let lt = slice_get_within slots (slot_of both_layout k) own.slot own.stands in
      let low = slice_get_within followed own.at part own.listed in
      record {
        slot = own.slot;
        at = own.at;
        stands = get_left slots (slot ∷ []) (slot_of both_layout k) lt ∙ own.stands;
        low = own.low;
        high = own.high;
        listed = added.kept own.at low ∙ own.listed;
        comes = own.comes;
      }

  pub slots_more : AreSlotsSoFar stem classes (n + 1) (slots ++ slot ∷ []) after
  slots_more = record {
    many = (let long = length-append slots (slot ∷ []) in
        let many = h.many in omega (arith, long, many));
    stems = λ i s is. stem_is i s (pushed_get slots slot s i is);
    within = λ i s is. inside i s (pushed_get slots slot s i is);
    each = λ one k member low below on. go one k member low on (at_end n (slot_of both_layout k)
        below);
    only = λ k part low own. from k part low own
        (pushed_get slots slot own.slot (slot_of both_layout k) own.stands);
  }
    where
      stem_is : (i : ℕ) (s : Slot) → (slice_get slots i ≡ Some s)
          ⊎ ((i ≡ length slots) × (slot ≡ s)) → s.stem ≡ stem
      stem_is i s (inl old) = h.stems i s old
      stem_is i s (inr new) = ap (λ (x : Slot). x.stem) (sym new.1) ∙ of

      inside : (i : ℕ) (s : Slot) → (slice_get slots i ≡ Some s)
          ⊎ ((i ≡ length slots) × (slot ≡ s)) → IsWithin after s
      inside i s (inl old) =
          let w = h.within i s old in
          let high = w.1 in
          let more = added.more in (w.0, omega (arith, high, more))
      inside i s (inr new) = subst (IsWithin after) new.1
          (let more = added.more in (omega (arith, more, begin, end), omega (arith, end)))

      go : (one : UnitClass) (k : ℕ) → Contains classes one → k < 512
          → lane (number one.lanes) k ≡ true
          → (slot_of both_layout k < n) ⊎ (slot_of both_layout k ≡ n)
          → (part : Followed) × IsIn both_layout (slots ++ slot ∷ []) after k part
          × IsPartIn one k part
      go one k member low on (inl lt) =
          let was = h.each one k member low lt on in (was.0, still k was.0 was.1, was.2)
      go one k member low on (inr here) =
          let p = added.each one k member low here on in
          let up = p.2 in
          let below = p.3 in
          let last : length slots ≡ length slots + 0 = omega arith in
          let number : slot_of both_layout k ≡ length slots = here ∙ sym h.many in (
            p.1,
            record {
              slot = slot;
              at = p.0;
              stands = ap (slice_get (slots ++ slot ∷ [])) (number ∙ last)
                  ∙ get_right slots (slot ∷ []) 0;
              low = omega (arith, up, begin);
              high = omega (arith, below, end);
              listed = p.4;
              comes = p.5 k low refl ∙ on;
            },
            p.5,
          )

      from : (k : ℕ) (part : Followed) → k < 512
          → (own : IsIn both_layout (slots ++ slot ∷ []) after k part)
          → (slice_get slots (slot_of both_layout k) ≡ Some own.slot)
          ⊎ ((slot_of both_layout k ≡ length slots) × (slot ≡ own.slot))
          → (one : UnitClass) × Contains classes one × (lane (number one.lanes) k ≡ true)
      from k part low own (inl old) =
          let high = (h.within (slot_of both_layout k) own.slot old).1 in
          let below = own.high in
          let less : own.at < length followed = omega (arith, high, below) in
          h.only k part low (record {
            slot = own.slot;
            at = own.at;
            stands = old;
            low = own.low;
            high = own.high;
            listed = sym (added.kept own.at less) ∙ own.listed;
            comes = own.comes;
          })
      from k part low own (inr new) =
          let up = own.low in
          let first = ap (λ (x : Slot). x.begin) new.1 in
          let x = added.only own.at part (omega (arith, up, first, begin)) own.listed in (
            x.0,
            x.1,
            sym (x.2 k low (new.0 ∙ h.many) k low refl) ∙ own.comes,
          )
