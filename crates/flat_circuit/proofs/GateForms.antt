-- Each kind of gate in its form.
use Rattle.std.proofs.Common.{◌≡◌, refl, Bool, true, false, not, List, [], ◌∷◌}
use Rattle.std.specs.List.{list_all, list_any}

pub none_turned : (bits : List Bool) → list_all not bits ≡ not (list_any (λ b. b) bits)
none_turned [] = refl
none_turned (true ∷ bits) = refl
none_turned (false ∷ bits) = none_turned bits

pub some_turned : (bits : List Bool) → not (list_all not bits) ≡ list_any (λ b. b) bits
some_turned [] = refl
some_turned (true ∷ bits) = refl
some_turned (false ∷ bits) = some_turned bits
