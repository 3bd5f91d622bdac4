-- Rows of words, one for each group.
use Rattle.std.proofs.Common.{◌≡◌, ◌<◌, ℕ, zero, suc, refl, sym, ◌∙◌, ap, subst, List, [], ◌∷◌}
use Rattle.std.proofs.Common.{◌++◌, length, arith, inl, inr, ◌⊎◌, ◌+◌, ◌≤◌, length-append}
use Rattle.std.specs.Prelude.{All, Some, None, map, slice_get, slice_index_or, unwrap_or}
use Rattle.std.proofs.lemmas.{List.length_push, Option.get_or_from_slice_get}
use Rattle.bench_net.specs.{Statement.Statement, Scan.names}
use Rattle.fault_model.specs.Solution.{Test}
use Rattle.list_lemmas.proofs.Places.{place_within}
use Rattle.flat_circuit.specs.{GroupRows.{AreRowsFrom, AreFaultFree}, BlockSpans.groups}
use Rattle.flat_circuit.specs.Words.{AreWords}

pub mapped_get : {X : Type 0} (h : X → List ℕ) (xs : List X) (i : ℕ) (x : X) → i < length xs
    → x ≡ slice_index_or xs i x → slice_get (map h xs) i ≡ Some (h x)
mapped_get h [] i x lt e = absurd (omega (arith, lt))
mapped_get h (y ∷ xs) zero x lt e = ap (λ z. Some (h z)) (sym e)
mapped_get h (y ∷ xs) (suc i) x lt e = mapped_get h xs i x (omega (arith, lt)) e

pub pushed_get : {X : Type 0} (xs : List X) (x y : X) (i : ℕ) → slice_get (xs ++ x ∷ []) i ≡ Some y
    → (slice_get xs i ≡ Some y) ⊎ ((i ≡ length xs) × (x ≡ y))
pushed_get [] x y zero e = inr (refl, ap (λ o. unwrap_or o y) e)
pushed_get [] x y (suc i) e = let bad : None ≡ Some y = e in cc
pushed_get (z ∷ xs) x y zero e = inl e
pushed_get {X} (z ∷ xs) x y (suc i) e = go (pushed_get xs x y i e)
  where
    go : (slice_get xs i ≡ Some y) ⊎ ((i ≡ length xs) × (x ≡ y)) → (slice_get xs i ≡ Some y)
        ⊎ ((suc i ≡ suc (length xs)) × (x ≡ y))
    go (inl h) = inl h
    go (inr h) = inr (ap suc h.0, h.1)

-- an element of two joined lists is an element of one of them
pub appended_get : {X : Type 0} (xs ys : List X) (y : X) (i : ℕ) → slice_get (xs ++ ys) i ≡ Some y
    → (slice_get xs i ≡ Some y) ⊎ ((j : ℕ) × (i ≡ length xs + j) × (slice_get ys j ≡ Some y))
appended_get [] ys y i e = inr (i, omega arith, e)
appended_get (z ∷ xs) ys y zero e = inl e
appended_get {X} (z ∷ xs) ys y (suc i) e = go (appended_get xs ys y i e)
  where
    go : (slice_get xs i ≡ Some y) ⊎ ((j : ℕ) × (i ≡ length xs + j) × (slice_get ys j ≡ Some y))
        → (slice_get xs i ≡ Some y)
        ⊎ ((j : ℕ) × (suc i ≡ suc (length xs) + j) × (slice_get ys j ≡ Some y))
    go (inl h) = inl h
    go (inr h) = inr (h.0, omega (arith, h.1), h.2)

-- the words of one group more
pub rows_more : (c : List Statement) (tests : List Test) (first : ℕ) (rows : List (List ℕ))
    (row : List ℕ) (group : ℕ) → first + length rows ≡ group → group < groups (length tests)
    → AreRowsFrom c tests first rows → length row ≡ length (names c)
    → AreWords c tests group None row → AreRowsFrom c tests first (rows ++ row ∷ [])
rows_more c tests first rows row group count some before room words = record {
  within = omega (arith, length_push rows row, count, some);
  each = λ k r at. go k r (pushed_get rows row r k at);
}
  where
    go : (k : ℕ) (r : List ℕ) → (slice_get rows k ≡ Some r) ⊎ ((k ≡ length rows) × (row ≡ r))
        → (length r ≡ length (names c)) × AreWords c tests (first + k) None r
    go k r (inl h) = before.each k r h
    go k r (inr h) =
        let same : group ≡ first + k = sym count ∙ ap (λ n. first + n) (sym h.0) in (
          ap length (sym h.1) ∙ room,
          subst (λ n. AreWords c tests n None r) same
              (subst (AreWords c tests group None) h.1 words),
        )

-- the rows of the groups that follow
pub rows_joined : (c : List Statement) (tests : List Test) (first : ℕ) (rows more : List (List ℕ))
    (group : ℕ) → AreRowsFrom c tests first rows → first + length rows ≡ group
    → AreRowsFrom c tests group more → AreRowsFrom c tests first (rows ++ more)
rows_joined c tests first rows more group before follows behind = record {
  within = omega (arith, length-append rows more, behind.within, follows);
  each = λ k row at. go k row (appended_get rows more row k at);
}
  where
    go : (k : ℕ) (row : List ℕ) → (slice_get rows k ≡ Some row)
        ⊎ ((j : ℕ) × (k ≡ length rows + j) × (slice_get more j ≡ Some row))
        → (length row ≡ length (names c)) × AreWords c tests (first + k) None row
    go k row (inl h) = before.each k row h
    go k row (inr h) =
        let own = behind.each h.0 row h.2 in
        let same : group + h.0 ≡ first + k = omega (arith, follows, h.1) in (
          own.0,
          subst (λ n. AreWords c tests n None row) same own.1,
        )

-- the rows of the groups that follow the first ones
pub rows_append : (c : List Statement) (tests : List Test) (rows more : List (List ℕ)) (first : ℕ)
    → AreRowsFrom c tests 0 rows → first ≡ length rows → AreRowsFrom c tests first more
    → AreRowsFrom c tests 0 (rows ++ more)
rows_append c tests rows more first before follows behind =
    rows_joined c tests 0 rows more first before (omega (arith, follows)) behind

-- rows from the first group on are the words of the first groups
pub from_first : (c : List Statement) (tests : List Test) (rows : List (List ℕ))
    → AreRowsFrom c tests 0 rows → AreFaultFree c tests rows
from_first c tests rows are group row at =
    let own = are.each group row at in
    let same : 0 + group ≡ group = omega arith in (
      own.0,
      subst (λ n. AreWords c tests n None row) same own.1,
    )

-- a property of each row is a property of the row at a place
pub each_row : (P : List ℕ → Type 0) (rows : List (List ℕ)) (at : ℕ) (row : List ℕ) → All P rows
    → slice_get rows at ≡ Some row → P row
each_row P rows at row all is = subst P (get_or_from_slice_get rows at row [] is)
    (all at [] (place_within rows at row is))
