-- One pin was noted.
use Rattle.std.proofs.Common.{◌≡◌, ◌≢◌, ◌<◌, ◌≤◌, ◌+◌, ◌-◌, ◌^◌, ◌∙◌, ℕ, refl, sym, ap, subst, Bool}
use Rattle.std.proofs.Common.{true, false, List, length, arith, inl, inr, set, ◌⊎◌}
use Rattle.std.specs.Prelude.{Some, bit_or, min, slice_get, slice_index_or, ◌||◌}
use Rattle.std.proofs.lemmas.{Bool.cases_eq, List.{get_or-set_same, get_or-set_other, length-set}}
use Rattle.std.proofs.lemmas.Option.{get_or_from_slice_get}
use Rattle.flat_circuit.{specs.Words.lane, proofs.Public.{lane_or, set_here, set_there, some_lane}}
use Rattle.blocking_pins.specs.{declared.tally.PinCount.PinCount, Counting.{AreAdded, IsMarked}}
use Rattle.blocking_pins.specs.Counting.IsMarked.{unblocked, again, first}

module _ (number at lanes : ℕ) (counts after : List PinCount) (row : List ℕ)
    (fits : lanes < 2 ^ 128) (some : lanes ≢ 0) (same : length row ≡ length counts)
    (within : at < length counts) (count : length after ≡ length counts)
    (others : (i : ℕ) (old new : PinCount) → i ≢ at → slice_get counts i ≡ Some old
    → slice_get after i ≡ Some new → new ≡ old)
    (own : (old new : PinCount) → slice_get counts at ≡ Some old → slice_get after at ≡ Some new
    → ((old.last ≡ number) × (new ≡ old)) ⊎ ((old.last ≢ number) × (new ≡ record {
      faults = min (old.faults + 1) (2 ^ 32 - 1);
      last = number;
    }))) where
  abbrev now : List ℕ
  now = set row at (bit_or (slice_index_or row at 0) lanes)

  abbrev Noted : ℕ → ℕ → Type 0
  Noted i k = (i ≡ at) × (lane lanes k ≡ true)

  by_cases : (i : ℕ) (old new : PinCount) → i ≡ at
      → ((old.last ≡ number) × (new ≡ old)) ⊎ ((old.last ≢ number) × (new ≡ record {
        faults = min (old.faults + 1) (2 ^ 32 - 1);
        last = number;
      })) → IsMarked number ((k : ℕ) × (k < 128) × Noted i k) old new
  by_cases i old new is (inl e) = let l = some_lane lanes fits some in
      again (l.0, l.1, (is, l.2)) e.0 e.1
  by_cases i old new is (inr e) = let l = some_lane lanes fits some in
      first (l.0, l.1, (is, l.2)) e.0 e.1

  marks_of : (i : ℕ) (old new : PinCount) → slice_get counts i ≡ Some old
      → slice_get after i ≡ Some new → IsMarked number ((k : ℕ) × (k < 128) × Noted i k) old new
  marks_of i old new here there = go (cases_eq i at)
    where
      go : (i ≡ at) ⊎ (i ≢ at) → IsMarked number ((k : ℕ) × (k < 128) × Noted i k) old new
      go (inr ne) = unblocked (λ h. ne h.2.0) (others i old new ne here there)
      go (inl is) = by_cases i old new is
          (own old new (subst (λ x. slice_get counts x ≡ Some old) is here)
          (subst (λ x. slice_get after x ≡ Some new) is there))

  either : (a b : Bool) → (a || b) ≡ true → (a ≡ true) ⊎ (b ≡ true)
  either true b e = inl refl
  either false b e = inr e

  joined : (a b : Bool) → (a ≡ true) ⊎ (b ≡ true) → (a || b) ≡ true
  joined true b e = refl
  joined false true e = refl
  joined false false (inl e) = e
  joined false false (inr e) = e

  own_lane : (k : ℕ) → lane (slice_index_or now at 0) k
      ≡ (lane (slice_index_or row at 0) k || lane lanes k)
  own_lane k =
      let far : at < length row = omega (arith, within, same) in
      ap (λ w. lane w k) (get_or-set_same row at (bit_or (slice_index_or row at 0) lanes) 0 far)
      ∙ lane_or (slice_index_or row at 0) lanes k

  pub noted_at : AreAdded number Noted counts after row now
  noted_at = record {
    count = count;
    room = length-set row at (bit_or (slice_index_or row at 0) lanes);
    marks = marks_of;
    lanes = λ i k lt low. (λ on. to i k (cases_eq i at) on, λ h. from i k (cases_eq i at) h);
  }
    where
      kept : (i k : ℕ) → i ≢ at → lane (slice_index_or now i 0) k ≡ lane (slice_index_or row i 0) k
      kept i k ne = ap (λ w. lane w k)
          (get_or-set_other row at i (bit_or (slice_index_or row at 0) lanes) 0 ne)

      to : (i k : ℕ) → (i ≡ at) ⊎ (i ≢ at) → lane (slice_index_or now i 0) k ≡ true
          → (lane (slice_index_or row i 0) k ≡ true) ⊎ Noted i k
      to i k (inr ne) on = inl (sym (kept i k ne) ∙ on)
      to i k (inl is) on = go (either (lane (slice_index_or row at 0) k) (lane lanes k)
          (sym (own_lane k) ∙ (ap (λ x. lane (slice_index_or now x 0) k) (sym is) ∙ on)))
        where
          go : (lane (slice_index_or row at 0) k ≡ true) ⊎ (lane lanes k ≡ true)
              → (lane (slice_index_or row i 0) k ≡ true) ⊎ Noted i k
          go (inl e) = inl (ap (λ x. lane (slice_index_or row x 0) k) is ∙ e)
          go (inr e) = inr (is, e)

      from : (i k : ℕ) → (i ≡ at) ⊎ (i ≢ at) → (lane (slice_index_or row i 0) k ≡ true) ⊎ Noted i k
          → lane (slice_index_or now i 0) k ≡ true
      from i k (inr ne) (inl e) = kept i k ne ∙ e
      from i k (inr ne) (inr e) = absurd (ne e.0)
      from i k (inl is) (inl e) = ap (λ x. lane (slice_index_or now x 0) k) is
          ∙ (own_lane k ∙ joined (lane (slice_index_or row at 0) k) (lane lanes k)
          (inl (ap (λ x. lane (slice_index_or row x 0) k) (sym is) ∙ e)))
      from i k (inl is) (inr e) = ap (λ x. lane (slice_index_or now x 0) k) is
          ∙ (own_lane k ∙ joined (lane (slice_index_or row at 0) k) (lane lanes k) (inr e.1))

same_some : {X : Type 0} (x y : X) → Some x ≡ Some y → x ≡ y
same_some x y e = cc

-- a fault that was counted before
pub noted_again : (number at lanes : ℕ) (counts : List PinCount) (row : List ℕ) (d : PinCount)
    → lanes < 2 ^ 128 → lanes ≢ 0 → length row ≡ length counts → at < length counts
    → (slice_index_or counts at d).last ≡ number
    → AreAdded number (λ i k. (i ≡ at) × (lane lanes k ≡ true)) counts counts row
    (set row at (bit_or (slice_index_or row at 0) lanes))
noted_again number at lanes counts row d fits some same within is =
    noted_at number at lanes counts counts row fits some same within refl
    (λ i old new ne here there. same_some new old (sym there ∙ here)) (λ old new here there. inl (
      ap (λ (x : PinCount). x.last) (sym (get_or_from_slice_get counts at old d here)) ∙ is,
      same_some new old (sym there ∙ here),
    ))

-- a fault that is counted first
pub noted_first : (number at lanes faults : ℕ) (counts : List PinCount) (row : List ℕ)
    (d : PinCount) → lanes < 2 ^ 128 → lanes ≢ 0 → length row ≡ length counts → at < length counts
    → (slice_index_or counts at d).last ≢ number
    → faults ≡ min ((slice_index_or counts at d).faults + 1) (2 ^ 32 - 1)
    → AreAdded number (λ i k. (i ≡ at) × (lane lanes k ≡ true)) counts
    (set counts at (record { faults = faults; last = number })) row
    (set row at (bit_or (slice_index_or row at 0) lanes))
noted_first number at lanes faults counts row d fits some same within ne is =
    noted_at number at lanes counts after row fits some same within (length-set counts at new_one)
    (λ i old new other here there.
    same_some new old (sym there ∙ (set_there counts at i new_one other ∙ here)))
    (λ old new here there.
    let old_is : slice_index_or counts at d ≡ old = get_or_from_slice_get counts at old d here in
    inr (
      λ e. ne (ap (λ (x : PinCount). x.last) old_is ∙ e),
      same_some new new_one (sym there ∙ set_here counts at new_one within)
          ∙ ap (λ m. record { faults = m; last = number })
          (is ∙ ap (λ (x : PinCount). min (x.faults + 1) (2 ^ 32 - 1)) old_is),
    ))
  where
    new_one : PinCount
    new_one = record { faults = faults; last = number }

    after : List PinCount
    after = set counts at new_one
