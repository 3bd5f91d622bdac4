-- An overlay's list of the words that differ.
use Rattle.std.proofs.Common.{◌≡◌, ◌≢◌, ◌<◌, ◌≤◌, ℕ, zero, suc, ◌+◌, [], ◌∷◌, refl, sym, ◌∙◌, ap}
use Rattle.std.proofs.{Common.{List, length, arith, set, inl, inr, ◌⊎◌}, lemmas.Bool.cases_eq}
use Rattle.std.specs.Prelude.{All, slice_index_or}
use Rattle.std.proofs.lemmas.List.{length-set, get_or-set_same, get_or-set_other, get_or_default}
use Rattle.event_queue.specs.Overlay.{IsOverlay}
use Rattle.event_queue.proofs.Zeros.{one_less, zero_counted, index_zero, zeros_all}

pub has_room : (words changed : List ℕ) (count s : ℕ) → IsOverlay words changed count
    → s < length words → slice_index_or words s 0 ≡ 0 → count < length changed
has_room words changed count s o lt e = let h = zero_counted words s lt e in
    omega (arith, h, o.counted, o.room)

pub listed_more : (words changed : List ℕ) (count s word : ℕ) → IsOverlay words changed count
    → s < length words → slice_index_or words s 0 ≡ 0 → word ≢ 0
    → IsOverlay (set words s word) (set changed count s) (count + 1)
listed_more words changed count s word o lt e ne = record {
  room = length-set changed count s ∙ (o.room ∙ sym (length-set words s word));
  counted = let h = one_less words s word lt e ne in let long = length-set words s word in
      omega (arith, h, long, o.counted);
  within = within;
  listed = listed;
}
  where
    room : count < length changed
    room = has_room words changed count s o lt e

    within : (j : ℕ) → j < count + 1
        → slice_index_or (set changed count s) j 0 < length (set words s word)
    within j below = go (cases_eq j count)
      where
        go : (j ≡ count) ⊎ (j ≢ count)
            → slice_index_or (set changed count s) j 0 < length (set words s word)
        go (inl same) =
            let at = ap (λ x. slice_index_or (set changed count s) x 0) same
            ∙ get_or-set_same changed count s 0 room in
            let long = length-set words s word in omega (arith, at, long, lt)
        go (inr other) =
            let at = get_or-set_other changed count j s 0 other in
            let before = o.within j (omega (arith, below, other)) in
            let long = length-set words s word in omega (arith, at, long, before)

    listed : (t : ℕ) → slice_index_or (set words s word) t 0 ≢ 0
        → (j : ℕ) × (j < count + 1) × (slice_index_or (set changed count s) j 0 ≡ t)
    listed t differs = go (cases_eq t s)
      where
        go : (t ≡ s) ⊎ (t ≢ s)
            → (j : ℕ) × (j < count + 1) × (slice_index_or (set changed count s) j 0 ≡ t)
        go (inl same) = (count, omega arith, get_or-set_same changed count s 0 room ∙ sym same)
        go (inr other) =
            let found = o.listed t (λ h. differs (get_or-set_other words s t word 0 other ∙ h)) in
            let below : found.0 < count = found.1 in (
              found.0,
              omega (arith, below),
              get_or-set_other changed count found.0 s 0 (omega (arith, below)) ∙ found.2,
            )

pub none_listed : (words changed : List ℕ) → length changed ≡ length words
    → All (λ word. word ≡ 0) words → IsOverlay words changed 0
none_listed words changed room clear = record {
  room = room;
  counted = let h = zeros_all words clear in omega (arith, h);
  within = λ j below. absurd (omega (arith, below));
  listed = λ s differs. absurd (differs (index_zero words s clear));
}

-- ---- erased one by one
-- written or past the end, it is 0
erased : (words : List ℕ) (s : ℕ) → slice_index_or (set words s 0) s 0 ≡ 0
erased [] s = refl
erased (w ∷ words) zero = refl
erased (w ∷ words) (suc s) = erased words s

abbrev pub Rest : List ℕ → List ℕ → ℕ → Type 0
Rest words listed i = (s : ℕ) → slice_index_or words s 0 ≢ 0
    → (j : ℕ) × (i ≤ j) × (j < length listed) × (slice_index_or listed j 0 ≡ s)

pub rest_less : (words listed : List ℕ) (i : ℕ) → Rest words listed i
    → Rest (set words (slice_index_or listed i 0) 0) listed (i + 1)
rest_less words listed i rest s differs = go (cases_eq s (slice_index_or listed i 0))
  where
    go : (s ≡ slice_index_or listed i 0) ⊎ (s ≢ slice_index_or listed i 0)
        → (j : ℕ) × (i + 1 ≤ j) × (j < length listed) × (slice_index_or listed j 0 ≡ s)
    go (inl same) =
        absurd (differs (ap (λ x. slice_index_or (set words x 0) s 0) (sym same) ∙ erased words s))
    go (inr other) =
        let found = rest s
        (λ h. differs (get_or-set_other words (slice_index_or listed i 0) s 0 0 other ∙ h)) in
        let later : i ≤ found.0 = found.1 in
        let ne : found.0 ≢ i = λ e. other (sym found.3 ∙ ap (λ x. slice_index_or listed x 0) e) in
        (found.0, omega (arith, later, ne), found.2, found.3)

pub none_left : (words listed : List ℕ) (i : ℕ) → length listed ≤ i → Rest words listed i
    → All (λ word. word ≡ 0) words
none_left words listed i done rest k d lt = go (cases_eq (slice_index_or words k d) 0)
  where
    go : (slice_index_or words k d ≡ 0) ⊎ (slice_index_or words k d ≢ 0)
        → slice_index_or words k d ≡ 0
    go (inl e) = e
    go (inr ne) =
        let found = rest k (λ h. ne (get_or_default words k d 0 lt ∙ h)) in
        let later : i ≤ found.0 = found.1 in let within : found.0 < length listed = found.2 in
        absurd (omega (arith, later, within, done))
