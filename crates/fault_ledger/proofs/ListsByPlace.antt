-- Lists that a function of the place gives.
use Rattle.std.proofs.Common.{List, [], ◌++◌, add-one, ◌≡◌, ◌≢◌, ℕ, zero, suc, ◌+◌, ◌<◌, ◌≤◌, Bool}
use Rattle.std.proofs.Common.{true, false, ◌||◌, ◌∷◌, map, set, length, replicate, get_or}
use Rattle.std.{proofs.Common.{slice_index, refl, sym, ap, ◌∙◌, arith}, specs.List.list_any}
use Rattle.patterns.specs.Least.{from_up, below}

-- a place of a list is given its own element
pub set_same : (xs : List ℕ) (i : ℕ) → set xs i (slice_index xs i) ≡ xs
set_same [] i = refl
set_same (x ∷ xs) zero = refl
set_same (x ∷ xs) (suc i) = ap (λ l. x ∷ l) (set_same xs i)

pub length-from_up : {X : Type 0} (f : ℕ → X) (a n : ℕ) → length (map f (from_up a n)) ≡ n
length-from_up f a zero = refl
length-from_up f a (suc n) = ap suc (length-from_up f (a + 1) n)

get-from_up : {X : Type 0} (f : ℕ → X) (a n i j : ℕ) (d : X) → i < n → a + i ≡ j
    → get_or (map f (from_up a n)) i d ≡ f j
get-from_up f a zero i j d l e = absurd (omega arith)
get-from_up f a (suc n) zero j d l e = ap f (let q : a ≡ j = omega arith in q)
get-from_up f a (suc n) (suc i) j d l e = get-from_up f (a + 1) n i j d (omega arith) (omega arith)

pub same-from_up : {X : Type 0} (f g : ℕ → X) (a n : ℕ) → ((k : ℕ) → a ≤ k → k < a + n → f k ≡ g k)
    → map f (from_up a n) ≡ map g (from_up a n)
same-from_up f g a zero e = refl
same-from_up f g a (suc n) e =
    ap (λ x. x ∷ map f (from_up (a + 1) n)) (e a (omega arith) (omega arith))
    ∙ ap (λ xs. g a ∷ xs) (same-from_up f g (a + 1) n (λ k l m. e k (omega arith) (omega arith)))

set-from_up : {X : Type 0} (f g : ℕ → X) (a n i j : ℕ) (x : X) → i < n → a + i ≡ j → x ≡ g j
    → ((k : ℕ) → k ≢ j → f k ≡ g k) → set (map f (from_up a n)) i x ≡ map g (from_up a n)
set-from_up f g a zero i j x l e p q = absurd (omega arith)
set-from_up f g a (suc n) zero j x l e p q =
    let s : a ≡ j = omega arith in
    ap (λ y. y ∷ map f (from_up (a + 1) n)) (p ∙ ap g (sym s))
    ∙ ap (λ xs. g a ∷ xs) (same-from_up f g (a + 1) n (λ k m _. q k (omega arith)))
set-from_up f g a (suc n) (suc i) j x l e p q =
    ap (λ y. y ∷ set (map f (from_up (a + 1) n)) i x) (q a (omega arith))
    ∙ ap (λ xs. g a ∷ xs) (set-from_up f g (a + 1) n i j x (omega arith) (omega arith) p q)

-- one place of a list becomes x, its value by the function g, and elsewhere g agrees with f
pub set-below : {X : Type 0} (f g : ℕ → X) (n i : ℕ) (x : X) → i < n → x ≡ g i
    → ((k : ℕ) → k ≢ i → f k ≡ g k) → set (map f (below n)) i x ≡ map g (below n)
set-below f g n i x l p q = set-from_up f g 0 n i i x l (omega arith) p q

replicate-from_up : {X : Type 0} (x : X) (f : ℕ → X) (a n : ℕ) → ((k : ℕ) → x ≡ f k)
    → replicate n x ≡ map f (from_up a n)
replicate-from_up x f a zero e = refl
replicate-from_up x f a (suc n) e = ap (λ y. y ∷ replicate n x) (e a)
    ∙ ap (λ xs. f a ∷ xs) (replicate-from_up x f (a + 1) n e)

pub replicate-below : {X : Type 0} (x : X) (f : ℕ → X) (n : ℕ) → ((k : ℕ) → x ≡ f k)
    → replicate n x ≡ map f (below n)
replicate-below x f n e = replicate-from_up x f 0 n e

any-from_up : (p q : ℕ → Bool) (a n : ℕ) → ((k : ℕ) → a ≤ k → k < a + n → p k ≡ q k)
    → list_any p (from_up a n) ≡ list_any q (from_up a n)
any-from_up p q a zero e = refl
any-from_up p q a (suc n) e =
    ap (λ b. b || list_any p (from_up (a + 1) n)) (e a (omega arith) (omega arith))
    ∙ ap (λ b. q a || b) (any-from_up p q (a + 1) n (λ k l m. e k (omega arith) (omega arith)))

pub any-below : (p q : ℕ → Bool) (n : ℕ) → ((k : ℕ) → k < n → p k ≡ q k)
    → list_any p (below n) ≡ list_any q (below n)
any-below p q n e = any-from_up p q 0 n (λ k l m. e k (omega arith))

any_none-from_up : (p : ℕ → Bool) (a n : ℕ) → ((k : ℕ) → a ≤ k → k < a + n → p k ≡ false)
    → list_any p (from_up a n) ≡ false
any_none-from_up p a zero e = refl
any_none-from_up p a (suc n) e = rw (e a (omega arith) (omega arith))
    (any_none-from_up p (a + 1) n (λ k l m. e k (omega arith) (omega arith)))

pub any_none-below : (p : ℕ → Bool) (n : ℕ) → ((k : ℕ) → k < n → p k ≡ false)
    → list_any p (below n) ≡ false
any_none-below p n e = any_none-from_up p 0 n (λ k l m. e k (omega arith))

any_at-from_up : (p : ℕ → Bool) (a n k : ℕ) → a ≤ k → k < a + n → p k ≡ true
    → list_any p (from_up a n) ≡ true
any_at-from_up p a zero k l m e = absurd (omega arith)
any_at-from_up p a (suc n) k l m e =
    go (p a) refl (λ x. any_at-from_up p (a + 1) n k x (omega arith) e)
  where
    go : (b : Bool) → p a ≡ b → (a + 1 ≤ k → list_any p (from_up (a + 1) n) ≡ true)
        → (b || list_any p (from_up (a + 1) n)) ≡ true
    go true x i = refl
    go false x i = i (let q : a ≢ k = (λ y. let z = ap p y in absurd (cc)) in omega arith)

pub any_at-below : (p : ℕ → Bool) (n k : ℕ) → k < n → p k ≡ true → list_any p (below n) ≡ true
any_at-below p n k l e = any_at-from_up p 0 n k (omega arith) (omega arith) e

from_up-last : {X : Type 0} (f : ℕ → X) (a n b : ℕ) → a + n ≡ b
    → map f (from_up a n) ++ f b ∷ [] ≡ map f (from_up a (suc n))
from_up-last f a zero b e = let q : b ≡ a = omega arith in ap (λ k. f k ∷ []) q
from_up-last f a (suc n) b e = ap (λ xs. f a ∷ xs) (from_up-last f (a + 1) n b (omega arith))

-- one more place of a list that a function gives
pub more_below : {X : Type 0} (f : ℕ → X) (n : ℕ) (xs now : List X) (x : X) → xs ≡ map f (below n)
    → x ≡ f n → now ≡ xs ++ x ∷ [] → now ≡ map f (below (n + 1))
more_below f n xs now x all is pushed =
    pushed ∙ (λ k. all k ++ is k ∷ []) ∙ from_up-last f 0 n n (omega arith)
    ∙ ap (λ k. map f (below k)) (sym (add-one n))
