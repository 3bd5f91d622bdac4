-- Words that are erased one by one, as a list names them.
use Rattle.std.proofs.Common.{◌≡◌, ◌≢◌, ◌<◌, ◌≤◌, ℕ, zero, suc, ◌+◌, [], ◌∷◌, refl, sym, ◌∙◌, ap}
use Rattle.std.proofs.{Common.{List, length, arith, set, inl, inr, ◌⊎◌}, lemmas.Bool.cases_eq}
use Rattle.std.specs.Prelude.{All, slice_index_or}
use Rattle.std.proofs.lemmas.List.{get_or-set_other, get_or_default}

-- written or past the end, it is 0
erased : (words : List ℕ) (s : ℕ) → slice_index_or (set words s 0) s 0 ≡ 0
erased [] s = refl
erased (w ∷ words) zero = refl
erased (w ∷ words) (suc s) = erased words s

abbrev pub Rest : List ℕ → List ℕ → ℕ → Type 0
Rest words listed i = (s : ℕ) → slice_index_or words s 0 ≢ 0
    → (j : ℕ) × (i ≤ j) × (j < length listed) × (slice_index_or listed j 0 ≡ s)

pub rest_less : (words listed : List ℕ) (i : ℕ) → Rest words listed i
    → Rest (set words (slice_index_or listed i 0) 0) listed (i + 1)
rest_less words listed i rest s differs = go (cases_eq s (slice_index_or listed i 0))
  where
    go : (s ≡ slice_index_or listed i 0) ⊎ (s ≢ slice_index_or listed i 0)
        → (j : ℕ) × (i + 1 ≤ j) × (j < length listed) × (slice_index_or listed j 0 ≡ s)
    go (inl same) =
        absurd (differs (ap (λ x. slice_index_or (set words x 0) s 0) (sym same) ∙ erased words s))
    go (inr other) =
        let found = rest s
        (λ h. differs (get_or-set_other words (slice_index_or listed i 0) s 0 0 other ∙ h)) in
        let later : i ≤ found.0 = found.1 in
        let ne : found.0 ≢ i = λ e. other (sym found.3 ∙ ap (λ x. slice_index_or listed x 0) e) in
        (found.0, omega (arith, later, ne), found.2, found.3)

pub none_left : (words listed : List ℕ) (i : ℕ) → length listed ≤ i → Rest words listed i
    → All (λ word. word ≡ 0) words
none_left words listed i done rest k d lt = go (cases_eq (slice_index_or words k d) 0)
  where
    go : (slice_index_or words k d ≡ 0) ⊎ (slice_index_or words k d ≢ 0)
        → slice_index_or words k d ≡ 0
    go (inl e) = e
    go (inr ne) =
        let found = rest k (λ h. ne (get_or_default words k d 0 lt ∙ h)) in
        let later : i ≤ found.0 = found.1 in let within : found.0 < length listed = found.2 in
        absurd (omega (arith, later, within, done))
