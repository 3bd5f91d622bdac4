-- Values that wait in a row, each of which fits its place in it.
use Rattle.std.proofs.Common.{◌≡◌, ℕ, suc, ◌+◌, List, [], ◌∷◌, ◌++◌, arith, length, subst}

-- each value fits its place, counted from a first one on
abbrev pub AllFrom : {X : Type 0} → (ℕ → X → Type 0) → ℕ → List X → Type 0
AllFrom P n [] = Unit {0}
AllFrom P n (x ∷ xs) = P n x × AllFrom P (suc n) xs

pub all_pushed : {X : Type 0} (P : ℕ → X → Type 0) (n : ℕ) (xs : List X) (x : X) → AllFrom P n xs
    → P (n + length xs) x → AllFrom P n (xs ++ x ∷ [])
all_pushed P n [] x all h = (subst (λ m. P m x) (omega arith) h, tt)
all_pushed P n (y ∷ ys) x all h =
    let next : n + suc (length ys) ≡ suc n + length ys = omega arith in
    (all.0, all_pushed P (suc n) ys x all.1 (subst (λ m. P m x) next h))
