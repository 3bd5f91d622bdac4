-- Lists without a repeated element.
use Rattle.std.proofs.Common.{◌≡◌, ℕ, zero, suc, refl, sym, ap, subst, List, [], ◌∷◌, ◌++◌, arith}
use Rattle.std.proofs.Common.{inl, inr, ◌⊎◌}
use Rattle.std.specs.Prelude.{Contains, Some, None, slice_get, map, AllPairs, ◌≢◌, unwrap_or}
use Rattle.list_lemmas.proofs.Members.{Among, contained, among_left, among_right, among_append}
use Rattle.list_lemmas.proofs.{Members.mapped_from, Places.at_place}

-- no element stands twice
abbrev pub Distinct : {X : Type 0} → List X → Type 0
Distinct [] = Unit {0}
Distinct (x ∷ xs) = (Among x xs → ⊥) × Distinct xs

pub distinct_from_pairs : {X : Type 0} (xs : List X) → AllPairs (λ m n. m ≢ n) xs → Distinct xs
distinct_from_pairs [] once = tt
distinct_from_pairs {X} (x ∷ xs) once = (
  fresh,
  distinct_from_pairs xs
      (λ i j d lt len. once (suc i) (suc j) d (omega (arith, lt)) (omega (arith, len))),
)
  where
    fresh : Among x xs → ⊥
    fresh a =
        let c : Contains xs x = contained xs x a in
        once 0 (suc c.0) x (omega arith) (omega (arith, c.1)) (sym c.2)

-- in such a list two places with one element are one place
pub one_place_of : {X : Type 0} (xs : List X) (i j : ℕ) (x : X) → Distinct xs
    → slice_get xs i ≡ Some x → slice_get xs j ≡ Some x → i ≡ j
one_place_of [] i j x d e g = let bad : None ≡ Some x = e in cc
one_place_of (z ∷ xs) zero zero x d e g = refl
one_place_of (z ∷ xs) zero (suc j) x d e g =
    let same : z ≡ x = ap (λ o. unwrap_or o x) e in
    absurd (d.0 (subst (λ y. Among y xs) (sym same) (at_place xs j x g)))
one_place_of (z ∷ xs) (suc i) zero x d e g =
    let same : z ≡ x = ap (λ o. unwrap_or o x) g in
    absurd (d.0 (subst (λ y. Among y xs) (sym same) (at_place xs i x e)))
one_place_of (z ∷ xs) (suc i) (suc j) x d e g = ap suc (one_place_of xs i j x d.1 e g)

-- an element put between two lists
pub distinct_between : {X : Type 0} (xs ys : List X) (x : X) → Distinct (xs ++ ys)
    → (Among x (xs ++ ys) → ⊥) → Distinct (xs ++ x ∷ ys)
distinct_between [] ys x d fresh = (fresh, d)
distinct_between {X} (z ∷ xs) ys x d fresh =
    (other, distinct_between xs ys x d.1 (λ a. fresh (inr a)))
  where
    split : Among z xs ⊎ Among z (x ∷ ys) → ⊥
    split (inl h) = d.0 (among_left xs ys z h)
    split (inr (inl h)) = fresh (inl (sym h))
    split (inr (inr h)) = d.0 (among_right xs ys z h)

    other : Among z (xs ++ x ∷ ys) → ⊥
    other a = split (among_append xs (x ∷ ys) z a)

pub distinct_append : {X : Type 0} (xs ys : List X) → Distinct xs → Distinct ys
    → ((x : X) → Among x xs → Among x ys → ⊥) → Distinct (xs ++ ys)
distinct_append [] ys d e apart = e
distinct_append {X} (x ∷ xs) ys d e apart =
    (fresh, distinct_append xs ys d.1 e (λ y a b. apart y (inr a) b))
  where
    split : Among x xs ⊎ Among x ys → ⊥
    split (inl h) = d.0 h
    split (inr h) = apart x (inl refl) h

    fresh : Among x (xs ++ ys) → ⊥
    fresh a = split (among_append xs ys x a)

pub distinct_map : {X Y : Type 0} (f : X → Y) (xs : List X) → ((x y : X) → f x ≡ f y → x ≡ y)
    → Distinct xs → Distinct (map f xs)
distinct_map f [] one d = tt
distinct_map {X} {Y} f (x ∷ xs) one d = (fresh, distinct_map f xs one d.1)
  where
    fresh : Among (f x) (map f xs) → ⊥
    fresh a = let p = mapped_from f xs (f x) a in d.0 (subst (λ y. Among y xs) (one p.0 x p.2) p.1)
