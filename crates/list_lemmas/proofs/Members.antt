-- Membership by recursion on the list, and through the operations on lists.
use Rattle.std.proofs.Common.{◌≡◌, ℕ, zero, suc, ◌<◌, ◌∙◌, ◌++◌, refl, sym, ap, List, [], ◌∷◌}
use Rattle.std.proofs.Common.{length, arith, inl, inr, ◌⊎◌, Bool, true, false, ◌||◌, subst}
use Rattle.std.specs.Prelude.{Contains, slice_index_or, map, filter, flat_map}
use Rattle.std.{specs.List.{list_all, list_any}, proofs.lemmas.Bool.and_parts}

abbrev pub Among : {X : Type 0} → X → List X → Type 0
Among x [] = ⊥
Among x (y ∷ ys) = (y ≡ x) ⊎ Among x ys

pub among : {X : Type 0} (xs : List X) (x : X) → Contains xs x → Among x xs
among {X} xs x c = go xs c.0 c.1 c.2
  where
    go : (ys : List X) (k : ℕ) → k < length ys → slice_index_or ys k x ≡ x → Among x ys
    go [] k h e = absurd (omega (arith, h))
    go (y ∷ ys) zero h e = inl e
    go (y ∷ ys) (suc k) h e = inr (go ys k (omega (arith, h)) e)

pub contained : {X : Type 0} (xs : List X) (x : X) → Among x xs → Contains xs x
contained [] x a = absurd a
contained (y ∷ ys) x (inl e) = (0, omega arith, e)
contained (y ∷ ys) x (inr a) = let c : Contains ys x = contained ys x a in
    (suc c.0, omega (arith, c.1), c.2)

-- each element of a list passes a test that all pass
pub each_passes : {X : Type 0} (test : X → Bool) (xs : List X) (x : X) → list_all test xs ≡ true
    → Contains xs x → test x ≡ true
each_passes {X} test xs x e c = go xs e (among xs x c)
  where
    go : (ys : List X) → list_all test ys ≡ true → Among x ys → test x ≡ true
    go [] e a = absurd a
    go (y ∷ ys) e (inl h) = subst (λ z. test z ≡ true) h (and_parts (test y) (list_all test ys) e).0
    go (y ∷ ys) e (inr a) = go ys (and_parts (test y) (list_all test ys) e).1 a

-- some element passes a test that some pass
pub some_passes : {X : Type 0} (test : X → Bool) (xs : List X) → list_any test xs ≡ true
    → (x : X) × Contains xs x × (test x ≡ true)
some_passes test [] e = cc
some_passes test (y ∷ ys) e = go (test y) refl e (some_passes test ys)
  where
    go : (b : Bool) → test y ≡ b → (b || list_any test ys) ≡ true
        → (list_any test ys ≡ true → (x : _) × Contains ys x × (test x ≡ true))
        → (x : _) × Contains (y ∷ ys) x × (test x ≡ true)
    go true h e later = (y, (0, omega arith, refl), h)
    go false h e later = let found : _ = later e in
        (found.0, contained (y ∷ ys) found.0 (inr (among ys found.0 found.1)), found.2)

pub among_left : {X : Type 0} (xs ys : List X) (x : X) → Among x xs → Among x (xs ++ ys)
among_left [] ys x a = absurd a
among_left (z ∷ xs) ys x (inl e) = inl e
among_left (z ∷ xs) ys x (inr a) = inr (among_left xs ys x a)

pub among_right : {X : Type 0} (xs ys : List X) (x : X) → Among x ys → Among x (xs ++ ys)
among_right [] ys x a = a
among_right (z ∷ xs) ys x a = inr (among_right xs ys x a)

pub among_append : {X : Type 0} (xs ys : List X) (x : X) → Among x (xs ++ ys)
    → Among x xs ⊎ Among x ys
among_append [] ys x a = inr a
among_append (z ∷ xs) ys x (inl e) = inl (inl e)
among_append {X} (z ∷ xs) ys x (inr a) = go (among_append xs ys x a)
  where
    go : Among x xs ⊎ Among x ys → Among x (z ∷ xs) ⊎ Among x ys
    go (inl h) = inl (inr h)
    go (inr h) = inr h

-- what one element gives is in the joined list
pub among_joined : {X Y : Type 0} (f : X → List Y) (xs : List X) (x : X) (y : Y) → Among x xs
    → Among y (f x) → Among y (flat_map f xs)
among_joined f [] x y a h = absurd a
among_joined f (z ∷ xs) x y (inl e) h =
    among_left (f z) (flat_map f xs) y (subst (λ w. Among y (f w)) (sym e) h)
among_joined f (z ∷ xs) x y (inr a) h =
    among_right (f z) (flat_map f xs) y (among_joined f xs x y a h)

-- and all that is in it is given by some element
pub joined_from : {X Y : Type 0} (f : X → List Y) (xs : List X) (y : Y) → Among y (flat_map f xs)
    → (x : X) × Among x xs × Among y (f x)
joined_from f [] y a = absurd a
joined_from {X} f (z ∷ xs) y a = go (joined_from f xs y) (among_append (f z) (flat_map f xs) y a)
  where
    go : (Among y (flat_map f xs) → (x : X) × Among x xs × Among y (f x))
        → Among y (f z) ⊎ Among y (flat_map f xs) → (x : X) × Among x (z ∷ xs) × Among y (f x)
    go later (inl h) = (z, inl refl, h)
    go later (inr h) = let p = later h in (p.0, inr p.1, p.2)

pub among_map : {X Y : Type 0} (f : X → Y) (xs : List X) (x : X) → Among x xs
    → Among (f x) (map f xs)
among_map f [] x a = absurd a
among_map f (z ∷ xs) x (inl e) = inl (ap f e)
among_map f (z ∷ xs) x (inr a) = inr (among_map f xs x a)

pub mapped_from : {X Y : Type 0} (f : X → Y) (xs : List X) (y : Y) → Among y (map f xs)
    → (x : X) × Among x xs × (f x ≡ y)
mapped_from f [] y a = absurd a
mapped_from f (z ∷ xs) y (inl e) = (z, inl refl, e)
mapped_from f (z ∷ xs) y (inr a) = let p = mapped_from f xs y a in (p.0, inr p.1, p.2)

pub among_filter : {X : Type 0} (test : X → Bool) (xs : List X) (x : X) → Among x xs → test x ≡ true
    → Among x (filter test xs)
among_filter test [] x a h = absurd a
among_filter test (z ∷ xs) x (inl e) h = rw (ap test e ∙ h) (inl e)
among_filter test (z ∷ xs) x (inr a) h = go (test z) refl (among_filter test xs x a h)
  where
    go : (b : Bool) → test z ≡ b → Among x (filter test xs) → Among x (filter test (z ∷ xs))
    go true e later = rw e (inr later)
    go false e later = rw e later

pub filtered_from : {X : Type 0} (test : X → Bool) (xs : List X) (x : X) → Among x (filter test xs)
    → Among x xs × (test x ≡ true)
filtered_from test [] x a = absurd a
filtered_from {X} test (z ∷ xs) x a = go (test z) refl (filtered_from test xs x)
  where
    go : (b : Bool) → test z ≡ b → (Among x (filter test xs) → Among x xs × (test x ≡ true))
        → Among x (z ∷ xs) × (test x ≡ true)
    go true e later = first (rw e at a)
      where
        first : Among x (z ∷ filter test xs) → Among x (z ∷ xs) × (test x ≡ true)
        first (inl h) = (inl h, ap test (sym h) ∙ e)
        first (inr h) = let p = later h in (inr p.0, p.1)
    go false e later = let h : Among x (filter test xs) = rw e at a in let p = later h in
        (inr p.0, p.1)
