-- The classes that no test of a round detects.
use Rattle.std.proofs.Common.{◌≡◌, ◌<◌, ◌≤◌, ℕ, zero, suc, Bool, List, [], ◌∷◌, Option, Some, None}
use Rattle.std.proofs.Common.{All, length, filter, map, is_none, zip, get_or, refl, sym, subst, ap}
use Rattle.std.{proofs.Common.arith, specs.Prelude.slice_get, proofs.lemmas.List.length-map}
use Rattle.std.proofs.lemmas.{List.Sums.{count_by-le-length, length-filter}, Slice.Zip.length-zip}
use Rattle.std.proofs.lemmas.Option.{get_or_from_slice_get, slice_get-get_or, slice_get_within}
use Rattle.generator.specs.Keeping.{AreLeft, HasFirst}

-- the classes as the program gathers them
abbrev pub gathered : List ℕ → List (Option ℕ) → List ℕ
gathered xs fs = map (λ at. at.0) (filter (λ at. is_none at.1) (zip xs fs))

each_left : (xs : List ℕ) (fs : List (Option ℕ)) (k x : ℕ) → slice_get (gathered xs fs) k ≡ Some x
    → (i : ℕ) × (slice_get xs i ≡ Some x) × (slice_get fs i ≡ Some None)
each_left [] fs k x e = let bad : None ≡ Some x = e in absurd (cc)
each_left (y ∷ xs) [] k x e = let bad : None ≡ Some x = e in absurd (cc)
each_left (y ∷ xs) (None ∷ fs) zero x e = (0, e, refl)
each_left (y ∷ xs) (None ∷ fs) (suc k) x e = let h = each_left xs fs k x e in (suc h.0, h.1, h.2)
each_left (y ∷ xs) (Some t ∷ fs) k x e = let h = each_left xs fs k x e in (suc h.0, h.1, h.2)

all_left : (xs : List ℕ) (fs : List (Option ℕ)) (i x : ℕ) → slice_get xs i ≡ Some x
    → slice_get fs i ≡ Some None → (k : ℕ) × (slice_get (gathered xs fs) k ≡ Some x)
all_left [] fs i x e f = let bad : None ≡ Some x = e in absurd (cc)
all_left (y ∷ xs) [] i x e f = let bad : None ≡ Some None = f in absurd (cc)
all_left (y ∷ xs) (None ∷ fs) zero x e f = (0, e)
all_left (y ∷ xs) (None ∷ fs) (suc i) x e f = let h = all_left xs fs i x e f in (suc h.0, h.1)
all_left (y ∷ xs) (Some t ∷ fs) zero x e f =
    let bad : Some (Some t) ≡ Some None = f in absurd (cc)
all_left (y ∷ xs) (Some t ∷ fs) (suc i) x e f = all_left xs fs i x e f

few_left : (xs : List ℕ) (fs : List (Option ℕ)) → length (gathered xs fs) ≤ length xs
few_left xs fs =
    let p : ℕ × Option ℕ → Bool = λ at. is_none at.1 in
    let mapped = length-map (filter p (zip xs fs)) (λ (at : ℕ × Option ℕ). at.0) in
    let kept = length-filter p (zip xs fs) in
    let few = count_by-le-length p (zip xs fs) in
    let short = length-zip xs fs in
    omega (arith, mapped, kept, few, short)

same_left : (xs : List ℕ) (fs : List (Option ℕ)) → length fs ≡ length xs
    → ((t : ℕ) → HasFirst fs t → ⊥) → gathered xs fs ≡ xs
same_left [] fs e none = refl
same_left (x ∷ xs) [] e none = absurd (omega (arith, e))
same_left (x ∷ xs) (Some t ∷ fs) e none = absurd (none t (0, refl))
same_left (x ∷ xs) (None ∷ fs) e none = ap (λ (l : List ℕ). x ∷ l)
    (same_left xs fs (omega (arith, e)) (λ t h. none t (suc h.0, h.1)))

pub left_are : (xs : List ℕ) (fs : List (Option ℕ)) (left : List ℕ) → left ≡ gathered xs fs
    → AreLeft xs fs left
left_are xs fs left is = subst (AreLeft xs fs) (sym is) (record {
  each = each_left xs fs;
  all = all_left xs fs;
  few = few_left xs fs;
  same = same_left xs fs;
})

-- they are among the given classes
pub left_within : (n : ℕ) (classes : List ℕ) (firsts : List (Option ℕ)) (left : List ℕ)
    → AreLeft classes firsts left → All (λ x. x < n) classes → All (λ x. x < n) left
left_within n classes firsts left are all k d lt =
    let h = are.each k (get_or left k d) (slice_get-get_or left k d lt) in
    subst (λ m. m < n) (get_or_from_slice_get classes h.0 (get_or left k d) 0 h.1)
    (all h.0 0 (slice_get_within classes h.0 (get_or left k d) h.1))
