-- Signals that begin to wait, one after the other.
use Rattle.std.proofs.Common.{◌≡◌, ◌≢◌, ◌<◌, ◌≤◌, ℕ, ◌+◌, refl, sym, ◌∙◌, ap, subst, List, length}
use Rattle.std.proofs.{Common.{set, arith, inl, inr, ◌⊎◌}, lemmas.List.Elements.Contains-get_or}
use Rattle.std.specs.Prelude.{All, Contains, Some, slice_get, slice_index_or}
use Rattle.std.proofs.lemmas.List.{get_or-set_same, get_or-set_other, get_or_default}
use Rattle.std.proofs.lemmas.Bool.{cases_eq}
use Rattle.flat_circuit.proofs.Public.{at_end}

-- the first signals of a list wait, and no others have begun to wait
pub record AreAddedTo (items : List ℕ) (i : ℕ) (before now : List ℕ) : Type 0 where
  pub all : (j : ℕ) → j < i → slice_index_or now (slice_index_or items j 0) 0 ≢ 0
  pub only : (s : ℕ) → (slice_index_or now s 0 ≡ slice_index_or before s 0)
      ⊎ (Contains items s × (slice_index_or now s 0 ≢ 0))

pub added_start : (items before : List ℕ) → AreAddedTo items 0 before before
added_start items before = record { all = λ j lt. absurd (omega (arith, lt)); only = λ s. inl refl }

module _ (items : List ℕ) (i : ℕ) (before now : List ℕ) (lt : i < length items)
    (h : AreAddedTo items i before now) (within : slice_index_or items i 0 < length now) where
  abbrev signal : ℕ
  signal = slice_index_or items i 0

  here : slice_index_or (set now signal 1) signal 0 ≢ 0
  here e = let one = get_or-set_same now signal 1 0 within in omega (arith, one, e)

  stays : (g : ℕ) → slice_index_or now g 0 ≢ 0 → (g ≡ signal) ⊎ (g ≢ signal)
      → slice_index_or (set now signal 1) g 0 ≢ 0
  stays g ne (inl same) = subst (λ x. slice_index_or (set now signal 1) x 0 ≢ 0) (sym same) here
  stays g ne (inr other) = λ z. ne (sym (get_or-set_other now signal g 1 0 other) ∙ z)

  all : (j : ℕ) → (j < i) ⊎ (j ≡ i)
      → slice_index_or (set now signal 1) (slice_index_or items j 0) 0 ≢ 0
  all j (inl below) = stays (slice_index_or items j 0) (h.all j below)
      (cases_eq (slice_index_or items j 0) signal)
  all j (inr same) = subst (λ x. slice_index_or (set now signal 1) (slice_index_or items x 0) 0 ≢ 0)
      (sym same) here

  only : (s : ℕ) → (s ≡ signal) ⊎ (s ≢ signal)
      → (slice_index_or (set now signal 1) s 0 ≡ slice_index_or before s 0)
      ⊎ (Contains items s × (slice_index_or (set now signal 1) s 0 ≢ 0))
  only s (inl same) = inr (
    subst (Contains items) (sym same) (Contains-get_or items i 0 lt),
    subst (λ x. slice_index_or (set now signal 1) x 0 ≢ 0) (sym same) here,
  )
  only s (inr other) = go (h.only s)
    where
      kept : slice_index_or (set now signal 1) s 0 ≡ slice_index_or now s 0
      kept = get_or-set_other now signal s 1 0 other

      go : (slice_index_or now s 0 ≡ slice_index_or before s 0)
          ⊎ (Contains items s × (slice_index_or now s 0 ≢ 0))
          → (slice_index_or (set now signal 1) s 0 ≡ slice_index_or before s 0)
          ⊎ (Contains items s × (slice_index_or (set now signal 1) s 0 ≢ 0))
      go (inl e) = inl (kept ∙ e)
      go (inr w) = inr (w.0, λ z. w.1 (sym kept ∙ z))

  pub added_one : AreAddedTo items (i + 1) before (set now (slice_index_or items i 0) 1)
  added_one = record {
    all = λ j below. all j (at_end i j below);
    only = λ s. only s (cases_eq s signal);
  }

pub added_all : (items : List ℕ) (i : ℕ) (before now : List ℕ) → length items ≤ i
    → AreAddedTo items i before now → All (λ s. slice_index_or now s 0 ≢ 0) items
added_all items i before now le h = λ j d lt.
    subst (λ x. slice_index_or now x 0 ≢ 0) (get_or_default items j 0 d lt)
    (h.all j (omega (arith, lt, le)))
