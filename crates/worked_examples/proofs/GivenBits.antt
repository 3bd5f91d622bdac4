-- Bits that a test gives a line, by the plain program.
use Rattle.std.{proofs.Common.{◌≡◌, ℕ, Bool, List, true}, specs.Prelude.{Some, None}}
use Rattle.bench_net.specs.Statement.{Name, Statement}
use Rattle.fault_model.specs.{declared.Line.Line, Detection.{HasBit, name_on}, Solution.Test}
use Rattle.fault_model.proofs.Public.{bit_within, is_solved, solves}

-- a bit that the plain program finds on a line is there, if its valuation solves
pub has_bit : (k : ℕ) (c : List Statement) (t : Test) (l : Line) (b : Bool) (n : Name)
    → name_on c l ≡ Some n → is_solved c t None (bit_within k c t None) ≡ true
    → bit_within k c t None n ≡ b → HasBit c t l b
has_bit k c t l b n at e h =
    (bit_within k c t None, n, solves c t None (bit_within k c t None) e, at, h)
