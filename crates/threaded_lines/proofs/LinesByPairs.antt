-- Pairs of a list, of faults or of their names, and of another list; and lines that are written for
-- each pair, one after another.
use Rattle.std.proofs.Common.{◌≡◌, ◌≤◌, ◌<◌, ℕ, zero, suc, ◌+◌, List, [], ◌∷◌, length, take, ap}
use Rattle.std.{proofs.Common.{get_or, arith, refl, ◌∙◌}, specs.List.flat_map}
use Rattle.std.specs.Prelude.{Some, None, slice_get, zip, unwrap_or}
use Rattle.list_lemmas.proofs.Places.{within_place}
use Rattle.byte_output.specs.Output.{Output, TakesAll, TakesFront}
use Rattle.byte_output.proofs.Public.{takes_more, stopped, flat_map_cut, flat_map_taken}

-- all pairs of a zip
pub all_zipped : {F X : Type 0} (fs : List F) (xs : List X) (i : ℕ) → length xs ≡ length fs
    → length fs ≤ i → take i (zip fs xs) ≡ zip fs xs
all_zipped [] xs zero same e = refl
all_zipped [] xs (suc i) same e = refl
all_zipped (f ∷ fs) [] i same e = absurd (omega (arith, same))
all_zipped (f ∷ fs) (x ∷ xs) zero same e = absurd (omega (arith, e))
all_zipped (f ∷ fs) (x ∷ xs) (suc i) same e =
    ap (λ l. (f, x) ∷ l) (all_zipped fs xs i (omega (arith, same)) (omega (arith, e)))

-- the pair of the elements of two lists at a place
pub zipped_by : {F X : Type 0} (fs : List F) (xs : List X) (i : ℕ) (f : F) (x : X) (d : F × X)
    → slice_get fs i ≡ Some f → slice_get xs i ≡ Some x
    → (i < length (zip fs xs)) × ((f, x) ≡ get_or (zip fs xs) i d)
zipped_by [] xs i f x d e h = let bad : None ≡ Some f = e in cc
zipped_by (g ∷ fs) [] i f x d e h = let bad : None ≡ Some x = h in cc
zipped_by (g ∷ fs) (z ∷ xs) zero f x d e h = let p : g ≡ f = ap (λ o. unwrap_or o f) e in
    let q : z ≡ x = ap (λ o. unwrap_or o x) h in (omega arith, rw (p, q) refl)
zipped_by (g ∷ fs) (z ∷ xs) (suc i) f x d e h = let p = zipped_by fs xs i f x d e h in
    (omega (arith, p.0), p.1)

-- the line of the pair at a place was taken whole, after the lines of the pairs before it
pub line_taken : {F X : Type 0} (line : F × X → List ℕ) (fs : List F) (xs : List X) (i : ℕ) (x : X)
    (text : F → List ℕ) (a b c : Output) → i < length fs → slice_get xs i ≡ Some x
    → ((f : F) → text f ≡ line (f, x)) → TakesAll a b (flat_map line (take i (zip fs xs)))
    → ((f : F) → slice_get fs i ≡ Some f → TakesAll b c (text f))
    → TakesAll a c (flat_map line (take (i + 1) (zip fs xs)))
line_taken line fs xs i x text a b c lt has is before wrote =
    let at = within_place fs i lt in
    let pair = zipped_by fs xs i at.0 x (at.0, x) at.1 has in
    rw (flat_map_taken line (zip fs xs) i (at.0, x) (text at.0) pair.0 (is at.0 ∙ ap line pair.1))
    (takes_more a b c _ _ before (wrote at.0 at.1))

-- a beginning of it was taken
pub line_stopped : {F X : Type 0} (line : F × X → List ℕ) (fs : List F) (xs : List X) (i : ℕ)
    (x : X) (text : F → List ℕ) (a b c : Output) → i < length fs → slice_get xs i ≡ Some x
    → ((f : F) → text f ≡ line (f, x)) → TakesAll a b (flat_map line (take i (zip fs xs)))
    → ((f : F) → slice_get fs i ≡ Some f → TakesFront b c (text f))
    → TakesFront a c (flat_map line (zip fs xs))
line_stopped line fs xs i x text a b c lt has is before wrote =
    let at = within_place fs i lt in
    let pair = zipped_by fs xs i at.0 x (at.0, x) at.1 has in
    stopped _ (text at.0) _ _ a b c before (wrote at.0 at.1)
    (flat_map_cut line (zip fs xs) i (at.0, x) (text at.0) pair.0 (is at.0 ∙ ap line pair.1))

-- the lines of all pairs were taken
pub lines_taken : {F X : Type 0} (line : F × X → List ℕ) (fs : List F) (xs : List X) (i : ℕ)
    (a b : Output) → length xs ≡ length fs → length fs ≤ i
    → TakesAll a b (flat_map line (take i (zip fs xs))) → TakesAll a b (flat_map line (zip fs xs))
lines_taken line fs xs i a b same all before = rw (all_zipped fs xs i same all) at before
