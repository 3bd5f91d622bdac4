-- What is found of the classes of one slot after the other.
use Rattle.std.proofs.Common.{◌≡◌, ◌+◌, ◌-◌, ◌<◌, ◌≤◌, ◌⊎◌, inl, inr, ℕ, Bool, refl, sym, ◌∙◌, ap}
use Rattle.std.proofs.{Common.{subst, List, length, arith, Some}, lemmas.Bool.cases_lt}
use Rattle.std.specs.Prelude.{bit_and, slice_get, slice_range}
use Rattle.wide_words.specs.Lanes.{Layout}
use Rattle.flat_circuit.specs.{declared.block_span.BlockSpan.BlockSpan, BlockSpans.group_of}
use Rattle.region_sim.specs.{declared.pack.Slot.Slot, RegionHits.IsSlotConcluded}
use Rattle.region_sim.specs.RegionHits.{AreApart, AreConcluded, AreInOrder, AreSlotsConcluded}
use Rattle.region_sim.specs.RegionHits.{HasTakenWord, IsFollowedAt, IsInSlot, IsPart}
use Rattle.region_sim.proofs.ListParts.{into_range, out_of_range}
use Rattle.region_sim.proofs.RegionHits.{followed_or_not, member_at, place_of_member}
use Rattle.block_sim.specs.declared.propagation.Followed.{Followed}

-- a part of those that stand in order is in order
pub order_within : (followed : List Followed) (a b : ℕ) → AreInOrder followed
    → AreInOrder (slice_range followed a b)
order_within followed a b ordered i k one other lt is there =
    let first = out_of_range followed a b i one is in
    let second = out_of_range followed a b k other there in
    ordered (a + i) (a + k) one other (omega (arith, lt)) first.1 second.1

-- ---- one slot more
module _ (layout : Layout) (span : BlockSpan) (seen : ℕ) (followed : List Followed)
    (stems : List Slot) (n : ℕ) (slot : Slot) (stands : slice_get stems n ≡ Some slot) where
  abbrev own : List Followed
  own = slice_range followed slot.begin slot.end

  -- a class of this slot
  in_own : (place : ℕ) → IsFollowedAt own place → IsInSlot followed stems (n + 1) place
  in_own place h =
      let at = place_of_member own h.0 h.1 in
      let out = out_of_range followed slot.begin slot.end at.0 h.0 at.1 in
      let lt = out.0 in
      record {
        number = n;
        below = omega arith;
        slot = slot;
        stands = stands;
        at = slot.begin + at.0;
        low = omega arith;
        high = omega (arith, lt);
        one = h.0;
        listed = out.1;
        there = h.2;
      }

  higher : (place : ℕ) → IsInSlot followed stems n place → IsInSlot followed stems (n + 1) place
  higher place h = record {
    number = h.number;
    below = (let lt = h.below in omega (arith, lt));
    slot = h.slot;
    stands = h.stands;
    at = h.at;
    low = h.low;
    high = h.high;
    one = h.one;
    listed = h.listed;
    there = h.there;
  }

  -- a class of the first slots is one of this slot or of those before it
  lower : (place : ℕ) → IsInSlot followed stems (n + 1) place
      → (IsFollowedAt own place → ⊥) → IsInSlot followed stems n place
  lower place h none = go (cases_lt h.number n)
    where
      go : (h.number < n) ⊎ (n ≤ h.number) → IsInSlot followed stems n place
      go (inl lt) = record {
        number = h.number;
        below = lt;
        slot = h.slot;
        stands = h.stands;
        at = h.at;
        low = h.low;
        high = h.high;
        one = h.one;
        listed = h.listed;
        there = h.there;
      }
      go (inr le) =
          let few = h.below in
          let same : n ≡ h.number = omega (arith, few, le) in
          let both : Some slot ≡ Some h.slot = sym stands ∙ (ap (slice_get stems) same ∙ h.stands)
          in
          let is : slot ≡ h.slot = cc in
          let begin = ap (λ (s : Slot). s.begin) is in
          let end = ap (λ (s : Slot). s.end) is in
          let low = h.low in
          let high = h.high in
          absurd (none (
            h.one,
            member_at own (h.at - slot.begin) h.one
                (into_range followed slot.begin slot.end h.at h.one (omega (arith, low, begin))
                (omega (arith, high, end)) h.listed),
            h.there,
          ))

  -- no class of this slot is one of those before it
  module _ (ordered : AreInOrder followed) (apart : AreApart stems) where
    pub not_before : (place : ℕ) → IsFollowedAt own place → IsInSlot followed stems n place → ⊥
    unfolding in_own
    not_before place h before =
        let here = in_own place h in
        let low = before.below in
        let gap = apart before.number n before.slot slot low before.stands stands in
        let above = here.low in
        let below = before.high in
        let up = ordered before.at here.at before.one here.one (omega (arith, below, gap, above))
        before.listed here.listed in
        let same = before.there in
        let at = here.there in
        omega (arith, up, same, at)

  module _ {K : Type 0} (all : Bool) (means : (ℕ → Bool) → ℕ → ℕ → K → Type 0) (word : ℕ)
      (before mid after : List K) (part : IsPart layout seen n word) (ordered : AreInOrder followed)
      (apart : AreApart stems)
      (first : AreSlotsConcluded all means layout span seen followed stems n before mid)
      (many : length after ≡ length mid) (kept : (place : ℕ) → (IsFollowedAt own place → ⊥)
      → slice_get after place ≡ slice_get mid place)
      (took : AreConcluded all means span word own mid after) where
    pub slot_more : AreSlotsConcluded all means layout span seen followed stems (n + 1) before after
    unfolding higher in_own
    slot_more = record {
      many = many ∙ first.many;
      others = λ place none. kept place (λ h. none (in_own place h))
          ∙ first.others place (λ h. none (higher place h));
      each = λ place h. go place h (followed_or_not own place);
    }
      where
        still : (place : ℕ) → (IsFollowedAt own place → ⊥)
            → IsSlotConcluded all means layout span seen followed stems n before mid place
            → IsSlotConcluded all means layout span seen followed stems (n + 1) before after place
        still place none c = record {
          class = higher place c.class;
          word = c.word;
          part = c.part;
          taken = (let t = c.taken in (t.0, t.1, t.2, kept place none ∙ t.3, t.4));
        }

        go : (place : ℕ) → IsInSlot followed stems (n + 1) place
            → IsFollowedAt own place ⊎ (IsFollowedAt own place → ⊥)
            → IsSlotConcluded all means layout span seen followed stems (n + 1) before after place
        go place h (inr none) = still place none (first.each place (lower place h none))
        go place h (inl there) =
            let t = subst (HasTakenWord all means (group_of span)
            (bit_and (there.0).lanes word) mid after) there.2 (took there.0 there.1) in
            let was = first.others place (not_before ordered apart place there) in
            record {
              class = in_own place there;
              word = word;
              part = part;
              taken = (t.0, t.1, sym was ∙ t.2, t.3, t.4);
            }

pub no_slots : {K : Type 0} (all : Bool) (means : (ℕ → Bool) → ℕ → ℕ → K → Type 0)
    (layout : Layout) (span : BlockSpan) (seen : ℕ) (followed : List Followed)
    (stems : List Slot) (before : List K)
    → AreSlotsConcluded all means layout span seen followed stems 0 before before
no_slots all means layout span seen followed stems before = record {
  many = refl;
  others = λ place none. refl;
  each = λ place h. (let bad = h.below in absurd (omega (arith, bad)));
}
