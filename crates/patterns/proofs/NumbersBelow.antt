-- Lemmas on the numbers below a bound, and on lists that are made from them.
use Rattle.std.proofs.Common.{◌≡◌, ℕ, ◌+◌, ◌<◌, ◌≤◌, List, [], ◌∷◌, ◌++◌, map, length, get_or, sym}
use Rattle.std.proofs.{Common.{◌∙◌, arith}, lemmas.List.FromFn.map-range_with_len_more}
use Rattle.std.proofs.lemmas.List.{same_lists, get_or_past, get_or-map, length-map}
use Rattle.std.proofs.lemmas.List.FromFn.{length-range_with_len, get_or-range_with_len}
use Rattle.std.proofs.lemmas.List.FromFn.{length-map-range_with_len, get_or-map-range_with_len}
use Rattle.patterns.specs.Least.{below}

pub length-below : (n : ℕ) → length (below n) ≡ n
length-below n = length-range_with_len 0 n

pub get_or-below : (n i d : ℕ) → i < n → get_or (below n) i d ≡ i
get_or-below n i d h = get_or-range_with_len 0 n i d h ∙ omega arith

pub length-map-below : {X : Type 0} (f : ℕ → X) (n : ℕ) → length (map f (below n)) ≡ n
length-map-below f n = length-map-range_with_len f 0 n

pub get_or-map-below : {X : Type 0} (f : ℕ → X) (n i : ℕ) (d : X) → i < n
    → get_or (map f (below n)) i d ≡ f i
get_or-map-below f n i d h = get_or-map-range_with_len f 0 n i i d h (omega arith)

pub get_or-map-below_past : {X : Type 0} (f : ℕ → X) (n i : ℕ) (d : X) → n ≤ i
    → get_or (map f (below n)) i d ≡ d
get_or-map-below_past f n i d h = get_or_past _ i d (omega (arith, length-map-below f n))

pub map-below_more : {X : Type 0} (f : ℕ → X) (n : ℕ)
    → map f (below (n + 1)) ≡ map f (below n) ++ f n ∷ []
map-below_more f n = map-range_with_len_more f 0 n n (omega arith)

-- two functions that agree below n give one list
pub map-below_same : {X : Type 0} (f g : ℕ → X) (n : ℕ) → ((i : ℕ) → i < n → f i ≡ g i)
    → map f (below n) ≡ map g (below n)
map-below_same f g n same = same_lists _ _ (length-map-below f n ∙ sym (length-map-below g n))
    (λ k d h. let in' : k < n = omega (arith, length-map-below f n) in
    get_or-map-below f n k d in' ∙ same k in' ∙ sym (get_or-map-below g n k d in'))

-- a list is the list of its elements
pub map-below_elements : {X Y : Type 0} (f : X → Y) (xs : List X) (g : ℕ → Y) (n : ℕ) (d : X)
    → length xs ≡ n → ((i : ℕ) → i < n → g i ≡ f (get_or xs i d)) → map g (below n) ≡ map f xs
map-below_elements f xs g n d len same =
    same_lists _ _ (length-map-below g n ∙ sym (length-map xs f ∙ len)) (λ k e h.
    let in' : k < n = omega (arith, length-map-below g n) in
    let in_xs : k < length xs = omega arith in
    get_or-map-below g n k e in' ∙ same k in' ∙ sym (get_or-map f xs k d e in_xs))
