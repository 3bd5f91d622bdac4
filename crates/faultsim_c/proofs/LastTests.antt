-- The last test of a list, by itself.
use Rattle.std.proofs.Common.{◌≡◌, ◌∙◌, ◌<◌, ◌+◌, ◌-◌, ◌∷◌, [], List, ap, arith, get_or, length}
use Rattle.std.{specs.Prelude.Bool, proofs.lemmas.List.{drop_all, drop_more}}
use Rattle.faultsim_c.specs.Following.{last_of}

-- there is none in an empty list
pub last_none : (tests : List (List Bool)) → length tests ≡ 0 → last_of tests ≡ []
last_none tests none = drop_all (length tests - 1) tests (omega (arith, none))

-- else it stands at the end
pub last_some : (tests : List (List Bool)) → 0 < length tests
    → last_of tests ≡ get_or tests (length tests - 1) [] ∷ []
last_some tests some =
    let last = length tests - 1 in
    drop_more tests last [] (omega (arith, some))
    ∙ ap (λ rest. get_or tests last [] ∷ rest) (drop_all (last + 1) tests (omega (arith, some)))

-- their number
pub none_kept : (tests : List (List Bool)) → length tests ≡ 0 → length (last_of tests) ≡ 0
none_kept tests none = ap length (last_none tests none)
