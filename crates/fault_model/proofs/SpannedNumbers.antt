-- Lists of all numbers below a bound: two with this many elements are permutations of each other,
-- and an ascending list is determined by its elements.
use Rattle.std.proofs.Common.{◌≡◌, ◌<◌, ℕ, zero, suc, refl, sym, ◌∙◌, ap, subst, Bool, true, false}
use Rattle.std.proofs.Common.{List, [], ◌∷◌, ◌++◌, map, length, filter, arith, inl, inr, ◌⊎◌}
use Rattle.std.specs.Prelude.{IsPermutation, AllPairs, Option, Some, None, Contains, is_some}
use Rattle.std.{specs.List.filter_map, proofs.lemmas.List.map-append}
use Rattle.std.proofs.lemmas.List.Sorted.{IsPermutation-refl, IsPermutation-trans}
use Rattle.std.proofs.lemmas.List.Sorted.{IsPermutation-sym, IsPermutation-cons}
use Rattle.std.proofs.lemmas.List.Sorted.{Contains-permutation, IsPermutation-to_front}
use Rattle.std.proofs.lemmas.List.Sorted.{IsPermutation-middle}
use Rattle.list_lemmas.proofs.Members.{Among, among, contained, among_append, among_left}
use Rattle.list_lemmas.proofs.Members.{among_right, among_filter, filtered_from, mapped_from}

-- an element stands between two lists
split_at : (xs : List ℕ) (x : ℕ) → Among x xs → (ys zs : List ℕ) × (xs ≡ ys ++ x ∷ zs)
split_at [] x a = absurd a
split_at (y ∷ xs) x (inl e) = ([], xs, ap (λ z. z ∷ xs) e)
split_at (y ∷ xs) x (inr a) = let p = split_at xs x a in (y ∷ p.0, p.1, ap (λ zs. y ∷ zs) p.2)

length_split : (ys zs : List ℕ) (x : ℕ) → length (ys ++ x ∷ zs) ≡ suc (length (ys ++ zs))
length_split [] zs x = refl
length_split (y ∷ ys) zs x = ap suc (length_split ys zs x)

-- the list has each number below n, and no more elements than that
pub record Spans (n : ℕ) (xs : List ℕ) : Type 0 where
  pub count : length xs ≡ n
  pub each : (s : ℕ) → s < n → Among s xs

rest_spans : (n : ℕ) (ys zs : List ℕ) → Spans (suc n) (ys ++ n ∷ zs) → Spans n (ys ++ zs)
rest_spans n ys zs h = record {
  count = let e : suc (length (ys ++ zs)) ≡ suc n = sym (length_split ys zs n) ∙ h.count in
      omega (arith, e);
  each = λ s lt. go s lt (among_append ys (n ∷ zs) s (h.each s (omega (arith, lt))));
}
  where
    go : (s : ℕ) → s < n → Among s ys ⊎ Among s (n ∷ zs) → Among s (ys ++ zs)
    go s lt (inl a) = among_left ys zs s a
    go s lt (inr (inl e)) = absurd (omega (arith, lt, e))
    go s lt (inr (inr a)) = among_right ys zs s a

-- the numbers below n
abbrev pub below : ℕ → List ℕ
below zero = []
below (suc n) = 0 ∷ map (λ k. suc k) (below n)

pub below_within : (n s : ℕ) → Among s (below n) → s < n
below_within zero s a = absurd a
below_within (suc n) s (inl e) = omega (arith, e)
below_within (suc n) s (inr a) =
    let p = mapped_from (λ k. suc k) (below n) s a in
    let lt = below_within n p.0 p.1 in
    let e : suc p.0 ≡ s = p.2 in
    omega (arith, lt, e)

below_more : (n : ℕ) → below (suc n) ≡ below n ++ n ∷ []
below_more zero = refl
below_more (suc n) = ap (λ xs. 0 ∷ map (λ k. suc k) xs) (below_more n)
    ∙ ap (λ xs. 0 ∷ xs) (map-append (λ k. suc k) (below n) (n ∷ []))

empty : (xs : List ℕ) → length xs ≡ 0 → [] ≡ xs
empty [] e = refl
empty (x ∷ xs) e = let bad : suc (length xs) ≡ 0 = e in absurd (omega (arith, bad))

pub spans_permuted : (n : ℕ) (xs : List ℕ) → Spans n xs → IsPermutation (below n) xs
spans_permuted zero xs h = subst (IsPermutation []) (empty xs h.count) (IsPermutation-refl [])
spans_permuted (suc n) xs h = go (spans_permuted n) (split_at xs n (h.each n (omega arith)))
  where
    go : ((rest : List ℕ) → Spans n rest → IsPermutation (below n) rest)
        → (ys zs : List ℕ) × (xs ≡ ys ++ n ∷ zs) → IsPermutation (below (suc n)) xs
    go ih p =
        let rest = p.0 ++ p.1 in
        let here = ih rest (rest_spans n p.0 p.1 (subst (Spans (suc n)) p.2 h)) in
        let front = IsPermutation-trans (below n ++ n ∷ []) (n ∷ below n) (n ∷ rest)
        (IsPermutation-to_front (below n) n) (IsPermutation-cons n (below n) rest here) in
        let all = IsPermutation-trans (below n ++ n ∷ []) (n ∷ rest) (p.0 ++ n ∷ p.1) front
        (IsPermutation-sym (p.0 ++ n ∷ p.1) (n ∷ rest) (IsPermutation-middle p.0 n p.1)) in
        subst (λ ys. IsPermutation ys xs) (sym (below_more n))
        (subst (IsPermutation (below n ++ n ∷ [])) (sym p.2) all)

-- so such a list has no other number
pub span_within : (n : ℕ) (xs : List ℕ) → Spans n xs → (s : ℕ) → Among s xs → s < n
span_within n xs h s a =
    let back = IsPermutation-sym (below n) xs (spans_permuted n xs h) in
    below_within n s
    (among (below n) s (Contains-permutation xs (below n) s back (contained xs s a)))

-- ---- ascending lists

-- each element stands in the relation to all after it
abbrev pub Pairwise : {X : Type 0} → (X → X → Type 0) → List X → Type 0
Pairwise R [] = Unit {0}
Pairwise {X} R (x ∷ xs) = ((y : X) → Among y xs → R x y) × Pairwise R xs

pub pairwise : {X : Type 0} (R : X → X → Type 0) (xs : List X) → AllPairs R xs → Pairwise R xs
pairwise R [] all = tt
pairwise {X} R (x ∷ xs) all = (
  first,
  pairwise R xs (λ i j d lt len. all (suc i) (suc j) d (omega (arith, lt)) (omega (arith, len))),
)
  where
    first : (y : X) → Among y xs → R x y
    first y a =
        let c : Contains xs y = contained xs y a in
        subst (R x) c.2 (all 0 (suc c.0) y (omega arith) (omega (arith, c.1)))

pub pairwise_filter : {X : Type 0} (R S : X → X → Type 0) (p : X → Bool) (xs : List X)
    → ((x y : X) → p x ≡ true → p y ≡ true → R x y → S x y) → Pairwise R xs
    → Pairwise S (filter p xs)
pairwise_filter R S p [] step all = tt
pairwise_filter {X} R S p (x ∷ xs) step all = go (p x) refl (pairwise_filter R S p xs step all.1)
  where
    go : (b : Bool) → p x ≡ b → Pairwise S (filter p xs) → Pairwise S (filter p (x ∷ xs))
    go false e rest = rw e rest
    go true e rest = rw e (
      (λ y a. let from = filtered_from p xs y a in step x y e from.1 (all.0 y from.0)),
      rest,
    )

abbrev pub Ascending : List ℕ → Type 0
Ascending xs = Pairwise (λ s t. s < t) xs

pub below_ascending : (n : ℕ) → Ascending (below n)
below_ascending zero = tt
below_ascending (suc n) = (first, shifted (below n) (below_ascending n))
  where
    first : (y : ℕ) → Among y (map (λ k. suc k) (below n)) → 0 < y
    first y a = let p = mapped_from (λ k. suc k) (below n) y a in
        let e : suc p.0 ≡ y = p.2 in omega (arith, e)

    shifted : (xs : List ℕ) → Ascending xs → Ascending (map (λ k. suc k) xs)
    shifted [] up = tt
    shifted (x ∷ xs) up = (later, shifted xs up.1)
      where
        later : (y : ℕ) → Among y (map (λ k. suc k) xs) → suc x < y
        later y a =
            let p = mapped_from (λ k. suc k) xs y a in
            let lt = up.0 p.0 p.1 in
            let e : suc p.0 ≡ y = p.2 in
            omega (arith, e, lt)

-- two lists with the same elements are equal if both go by a relation that holds between no two
-- elements in both ways
pub same_ordered : {X : Type 0} (R : X → X → Type 0) → ((x y : X) → R x y → R y x → ⊥)
    → (xs ys : List X) → Pairwise R xs → Pairwise R ys → ((x : X) → Among x xs → Among x ys)
    → ((x : X) → Among x ys → Among x xs) → xs ≡ ys
same_ordered R one_way [] [] up also into from = refl
same_ordered R one_way [] (y ∷ ys) up also into from = absurd (from y (inl refl))
same_ordered R one_way (x ∷ xs) [] up also into from = absurd (into x (inl refl))
same_ordered {X} R one_way (x ∷ xs) (y ∷ ys) up also into from =
    let heads : x ≡ y = first (into x (inl refl)) (from y (inl refl)) in
    let tails : xs ≡ ys =
    same_ordered R one_way xs ys up.1 also.1 (rest_into heads) (rest_from heads) in
    cc
  where
    first : Among x (y ∷ ys) → Among y (x ∷ xs) → x ≡ y
    first (inl e) b = sym e
    first (inr a) (inl e) = e
    first (inr a) (inr b) = absurd (one_way y x (also.0 x a) (up.0 y b))

    rest_into : x ≡ y → (z : X) → Among z xs → Among z ys
    rest_into e z a = go (into z (inr a))
      where
        go : Among z (y ∷ ys) → Among z ys
        go (inr b) = b
        go (inl h) =
            let own : R x x = subst (R x) (sym h ∙ sym e) (up.0 z a) in
            absurd (one_way x x own own)

    rest_from : x ≡ y → (z : X) → Among z ys → Among z xs
    rest_from e z a = go (from z (inr a))
      where
        go : Among z (x ∷ xs) → Among z xs
        go (inr b) = b
        go (inl h) =
            let own : R y y = subst (R y) (sym h ∙ e) (also.0 z a) in
            absurd (one_way y y own own)

-- ---- the parts of such lists that pass

pub kept_all : {Y : Type 0} (h : ℕ → Option Y) (f : ℕ → Y) (xs : List ℕ)
    → ((s : ℕ) → Among s xs → h s ≡ Some (f s)) → filter_map h xs ≡ map f xs
kept_all h f [] gives = refl
kept_all h f (x ∷ xs) gives =
    rw (gives x (inl refl)) (ap (λ ys. f x ∷ ys) (kept_all h f xs (λ s a. gives s (inr a))))

kept_some : {Y : Type 0} (h : ℕ → Option Y) (xs : List ℕ)
    → filter_map h (filter (λ s. is_some (h s)) xs) ≡ filter_map h xs
kept_some h [] = refl
kept_some {Y} h (x ∷ xs) = go (h x) refl (kept_some h xs)
  where
    go : (o : Option Y) → h x ≡ o → filter_map h (filter (λ s. is_some (h s)) xs) ≡ filter_map h xs
        → filter_map h (filter (λ s. is_some (h s)) (x ∷ xs)) ≡ filter_map h (x ∷ xs)
    go None e rest = rw e rest
    go (Some y) e rest = rw (e, e) (ap (λ ys. y ∷ ys) rest)

-- if a list has the numbers below n, and the numbers that give something ascend in it, it gives in
-- turn the same as the numbers below n
pub kept_same : {Y : Type 0} (h : ℕ → Option Y) (n : ℕ) (xs : List ℕ)
    → ((s : ℕ) → Among s xs → Among s (below n)) → ((s : ℕ) → Among s (below n) → Among s xs)
    → Ascending (filter (λ s. is_some (h s)) xs) → filter_map h xs ≡ filter_map h (below n)
kept_same {Y} h n xs into from up =
    sym (kept_some h xs) ∙ (ap (filter_map h) lists ∙ kept_some h (below n))
  where
    lists : filter (λ s. is_some (h s)) xs ≡ filter (λ s. is_some (h s)) (below n)
    lists = same_ordered (λ s t. s < t) (λ s t lt more. omega (arith, lt, more))
        (filter (λ s. is_some (h s)) xs) (filter (λ s. is_some (h s)) (below n)) up
        (pairwise_filter (λ s t. s < t) (λ s t. s < t) (λ s. is_some (h s)) (below n)
        (λ x y a b lt. lt) (below_ascending n))
        (λ s a. let p = filtered_from (λ t. is_some (h t)) xs s a in
        among_filter (λ t. is_some (h t)) (below n) s (into s p.0) p.1)
        (λ s a. let p = filtered_from (λ t. is_some (h t)) (below n) s a in
        among_filter (λ t. is_some (h t)) xs s (from s p.0) p.1)
