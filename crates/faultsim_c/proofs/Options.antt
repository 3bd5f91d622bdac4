-- The value of an option.
use Rattle.std.{proofs.Common.{◌≡◌, Some, ap}, specs.Prelude.unwrap_or}

pub some_inj : {A : Type 0} {x y : A} → Some x ≡ Some y → x ≡ y
some_inj {x = x} e = ap (λ o. unwrap_or o x) e
