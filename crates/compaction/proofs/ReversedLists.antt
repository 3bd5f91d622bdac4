-- Reversed lists.
use Rattle.std.proofs.Common.{◌≡◌, ◌-◌, ◌∙◌, ℕ, List, length, ap, sym, arith, get_or}
use Rattle.std.specs.{Prelude.{Some, slice_get}, List.ReversedBelow}
use Rattle.std.proofs.lemmas.Option.{get_or_from_slice_get, slice_get-get_or, slice_get_within}

pub reversed_back : {X : Type 0} (xs ys : List X) (n j : ℕ) (x : X) → length xs ≡ n → length ys ≡ n
    → ReversedBelow xs ys n → slice_get ys j ≡ Some x → slice_get xs (n - 1 - j) ≡ Some x
reversed_back xs ys n j x lx ly reversed e =
    let within = slice_get_within ys j x e in
    slice_get-get_or xs (n - 1 - j) x (omega (arith, lx, ly, within))
    ∙ ap Some (sym (reversed j x (omega (arith, ly, within))) ∙ get_or_from_slice_get ys j x x e)

pub reversed_to : {X : Type 0} (xs ys : List X) (n i : ℕ) (x : X) → length xs ≡ n → length ys ≡ n
    → ReversedBelow xs ys n → slice_get xs i ≡ Some x → slice_get ys (n - 1 - i) ≡ Some x
reversed_to xs ys n i x lx ly reversed e =
    let within = slice_get_within xs i x e in
    let back : n - 1 - (n - 1 - i) ≡ i = omega (arith, lx, within) in
    slice_get-get_or ys (n - 1 - i) x (omega (arith, lx, ly, within))
    ∙ ap Some (reversed (n - 1 - i) x (omega (arith, lx, within))
    ∙ (ap (λ k. get_or xs k x) back ∙ get_or_from_slice_get xs i x x e))
