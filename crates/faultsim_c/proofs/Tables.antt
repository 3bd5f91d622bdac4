-- A table that is filled from its first place on.
use Rattle.std.proofs.Common.{◌≡◌, ◌<◌, ◌≤◌, ◌+◌, ◌⊎◌, inl, inr, ℕ, List, get_or, length, set, sym}
use Rattle.std.{proofs.Common.{subst, arith}, specs.Prelude.slice_index}
use Rattle.std.proofs.lemmas.{Bool.cases_lt, List.{get_or-set_same, get_or-set_other}}

-- one place more of any table
pub next_of : {X : Type 0} (d : X) (P : ℕ → X → Type 0) (place : ℕ) (r : X) (table : List X)
    → place < length table → P place r → ((k : ℕ) → k < place → P k (get_or table k d))
    → (k : ℕ) → k < place + 1 → P k (get_or (set table place r) k d)
next_of {X} d P place r table here at before k lt = go (cases_lt k place)
  where
    go : (k < place) ⊎ (place ≤ k) → P k (get_or (set table place r) k d)
    go (inl low) =
        subst (P k) (sym (get_or-set_other table place k r d (λ e. omega (arith, low, e))))
        (before k low)
    go (inr high) =
        let same : place ≡ k = omega (arith, high, lt) in
        subst (λ (j : ℕ). P j (get_or (set table place r) j d)) same
        (subst (P place) (sym (get_or-set_same table place r d here)) at)

-- of a table of numbers
pub next : (P : ℕ → ℕ → Type 0) (place r : ℕ) (table : List ℕ) → place < length table
    → P place r → ((k : ℕ) → k < place → P k (slice_index table k))
    → (k : ℕ) → k < place + 1 → P k (slice_index (set table place r) k)
next P place r table here at before = next_of 0 P place r table here at before
