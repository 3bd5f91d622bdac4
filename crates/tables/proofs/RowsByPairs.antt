-- The items of two lists by their places, and those of them that pass a test.
use Rattle.std.proofs.Common.{◌≡◌, ◌<◌, ◌≤◌, ◌∙◌, ℕ, zero, suc, ◌+◌, List, [], ◌∷◌, ◌++◌, length}
use Rattle.std.proofs.Common.{take, ap, append-nil, arith, get_or, map, refl, subst, sym, take_all}
use Rattle.std.proofs.lemmas.{List.{get_or-map, map-append, take_more}, Slice.Zip.length-zip}
use Rattle.std.proofs.lemmas.List.Elements.{All-filter, All-from_get_or, All-get_or, filter-append}
use Rattle.std.proofs.lemmas.List.FromFn.{get_or-enumerate_from, length-enumerate_from}
use Rattle.std.proofs.lemmas.Option.{get_or_from_slice_get, slice_get-get_or, slice_get_within}
use Rattle.std.specs.{List.{enumerate_from, filter}, Prelude.{unwrap_or, zip}}
use Rattle.std.specs.Prelude.{All, Bool, None, Option, Some, cond, false, slice_get, true}
use Rattle.list_lemmas.proofs.Places.{within_place}

zipped_at : {F X : Type 0} (fs : List F) (xs : List X) (i : ℕ) (f : F) (x : X)
    → slice_get fs i ≡ Some f → slice_get xs i ≡ Some x → slice_get (zip fs xs) i ≡ Some (f, x)
zipped_at [] xs i f x e h = let bad : None ≡ Some f = e in cc
zipped_at (g ∷ fs) [] i f x e h = let bad : None ≡ Some x = h in cc
zipped_at (g ∷ fs) (z ∷ xs) zero f x e h = let p : g ≡ f = ap (λ o. unwrap_or o f) e in
    let q : z ≡ x = ap (λ o. unwrap_or o x) h in rw (p, q) refl
zipped_at (g ∷ fs) (z ∷ xs) (suc i) f x e h = zipped_at fs xs i f x e h

module _ {F X : Type 0} (fs : List F) (xs : List X) where
  -- the items at a place, with its number
  numbered_at : (i : ℕ) (f : F) (x : X) → slice_get fs i ≡ Some f → slice_get xs i ≡ Some x
      → slice_get (enumerate_from 0 (zip fs xs)) i ≡ Some (i, (f, x))
  numbered_at i f x e h =
      let pairs = zip fs xs in
      let at = zipped_at fs xs i f x e h in
      let lt = slice_get_within pairs i (f, x) at in
      let all = length-enumerate_from 0 pairs in
      let own : get_or (enumerate_from 0 pairs) i (i, (f, x)) ≡ (i, (f, x)) =
      get_or-enumerate_from 0 pairs i (i, (f, x)) lt
      ∙ (ap (λ k. (k, get_or pairs i (f, x))) (omega arith)
      ∙ ap (λ p. (i, p)) (get_or_from_slice_get pairs i (f, x) (f, x) at)) in
      slice_get-get_or (enumerate_from 0 pairs) i (i, (f, x)) (omega (arith, all, lt)) ∙ ap Some own

  -- all of them
  pub all_numbered : (i : ℕ) → length fs ≤ i
      → take i (enumerate_from 0 (zip fs xs)) ≡ enumerate_from 0 (zip fs xs)
  all_numbered i le =
      let both = length-zip fs xs in
      let long = length-enumerate_from 0 (zip fs xs) in
      take_all i (enumerate_from 0 (zip fs xs)) (omega (arith, both, long, le))

  module _ (test : X → Bool) where
    abbrev passing : List (ℕ × (F × X)) → List (ℕ × (F × X))
    passing all = filter (λ at. test at.1.1) all

    next_at : (i : ℕ) (f : F) (x : X) → slice_get fs i ≡ Some f → slice_get xs i ≡ Some x
        → map (λ at. at.0) (passing (take (i + 1) (enumerate_from 0 (zip fs xs))))
        ≡ map (λ at. at.0) (passing (take i (enumerate_from 0 (zip fs xs))))
        ++ map (λ at. at.0) (passing ((i, (f, x)) ∷ []))
    next_at i f x e h =
        let all = enumerate_from 0 (zip fs xs) in
        let here = numbered_at i f x e h in
        let lt = slice_get_within all i (i, (f, x)) here in
        let step : take (i + 1) all ≡ take i all ++ (i, (f, x)) ∷ [] =
        take_more all i (i, (f, x)) lt ∙ ap (λ a. take i all ++ a ∷ [])
        (get_or_from_slice_get all i (i, (f, x)) (i, (f, x)) here) in
        ap (λ l. map (λ at. at.0) (passing l)) step
        ∙ (ap (map (λ at. at.0)) (filter-append (λ at. test at.1.1) (take i all) ((i, (f, x)) ∷ []))
        ∙ map-append (λ at. at.0) (passing (take i all)) (passing ((i, (f, x)) ∷ [])))

    -- the next place passes the test
    pub place_added : (i : ℕ) (f : F) (x : X) → slice_get fs i ≡ Some f → slice_get xs i ≡ Some x
        → test x ≡ true → map (λ at. at.0) (passing (take (i + 1) (enumerate_from 0 (zip fs xs))))
        ≡ map (λ at. at.0) (passing (take i (enumerate_from 0 (zip fs xs)))) ++ i ∷ []
    place_added i f x e h passes = next_at i f x e h ∙ rw (passes) refl

    -- it doesn't
    pub place_skipped : (i : ℕ) (f : F) (x : X) → slice_get fs i ≡ Some f → slice_get xs i ≡ Some x
        → test x ≡ false → map (λ at. at.0) (passing (take (i + 1) (enumerate_from 0 (zip fs xs))))
        ≡ map (λ at. at.0) (passing (take i (enumerate_from 0 (zip fs xs))))
    place_skipped i f x e h fails = next_at i f x e h ∙ rw (fails) (append-nil _)

    abbrev IsAt : ℕ × (F × X) → Type 0
    IsAt at = (slice_get fs at.0 ≡ Some at.1.0) × (slice_get xs at.0 ≡ Some at.1.1)

    -- the items of each place that passes
    passing_at : (i : ℕ) (d : ℕ × (F × X)) → length xs ≡ length fs
        → i < length (passing (enumerate_from 0 (zip fs xs)))
        → IsAt (get_or (passing (enumerate_from 0 (zip fs xs))) i d)
    passing_at i d same lt =
        let all = enumerate_from 0 (zip fs xs) in
        let each : (k : ℕ) → k < length all → IsAt (get_or all k d) = λ k less.
        let both = length-zip fs xs in
        let long = length-enumerate_from 0 (zip fs xs) in
        let f = within_place fs k (omega (arith, less, both, long, same)) in
        let x = within_place xs k (omega (arith, less, both, long, same)) in
        let here = numbered_at k f.0 x.0 f.1 x.1 in
        subst IsAt (sym (get_or_from_slice_get all k (k, (f.0, x.0)) d here)) (f.1, x.1) in
        All-get_or IsAt (passing all) i d lt
        (All-filter (λ at. test at.1.1) IsAt all (All-from_get_or IsAt all d each))

    -- the number of such a place, and the items there
    pub listed_at : (vs : List ℕ) (i : ℕ) (d : ℕ × (F × X)) → length xs ≡ length fs
        → vs ≡ map (λ at. at.0) (passing (enumerate_from 0 (zip fs xs)))
        → i < length (passing (enumerate_from 0 (zip fs xs)))
        → (f : F) × (x : X) × (slice_get fs (get_or vs i 0) ≡ Some f)
        × (slice_get xs (get_or vs i 0) ≡ Some x)
        × (get_or (passing (enumerate_from 0 (zip fs xs))) i d ≡ (get_or vs i 0, (f, x)))
    listed_at vs i d same is lt =
        let rows = passing (enumerate_from 0 (zip fs xs)) in
        let at = get_or rows i d in
        let own : at.0 ≡ get_or vs i 0 = sym (ap (λ l. get_or l i 0) is
        ∙ get_or-map (λ at. at.0) rows i d 0 lt) in
        let here = passing_at i d same lt in (
          at.1.0,
          at.1.1,
          subst (λ k. slice_get fs k ≡ Some at.1.0) own here.0,
          subst (λ k. slice_get xs k ≡ Some at.1.1) own here.1,
          ap (λ k. (k, at.1)) own,
        )

-- an element of a list, at any default
pub get_or_same : {X : Type 0} (xs : List X) (i : ℕ) (d e : X) → i < length xs
    → get_or xs i e ≡ get_or xs i d
get_or_same [] i d e lt = absurd (omega (arith, lt))
get_or_same (x ∷ xs) zero d e lt = refl
get_or_same (x ∷ xs) (suc i) d e lt = get_or_same xs i d e (omega (arith, lt))
