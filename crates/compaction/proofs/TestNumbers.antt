-- The numbers of the tests of a list.
use Rattle.std.proofs.Common.{◌≡◌, ◌+◌, ◌∙◌, ◌++◌, ◌∷◌, [], ℕ, zero, suc, ap, arith, add-one}
use Rattle.patterns.specs.Least.{below, from_up}

more_up : (a n : ℕ) → from_up a (suc n) ≡ from_up a n ++ (a + n) ∷ []
more_up a zero = let e : a ≡ a + 0 = omega arith in ap (λ k. k ∷ []) e
more_up a (suc n) =
    let e : a + 1 + n ≡ a + suc n = omega arith in
    ap (λ xs. a ∷ xs) (more_up (a + 1) n ∙ ap (λ k. from_up (a + 1) n ++ k ∷ []) e)

-- one test more
pub below_more : (n : ℕ) → below (n + 1) ≡ below n ++ n ∷ []
below_more n =
    let e : 0 + n ≡ n = omega arith in
    ap (from_up 0) (add-one n) ∙ (more_up 0 n ∙ ap (λ k. from_up 0 n ++ k ∷ []) e)
