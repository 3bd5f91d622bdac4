-- Fewer tests make no more pieces, and there is room for a block.
use Rattle.std.proofs.{Common.{ℕ, ◌/◌, ◌≤◌, arith, max}, Math.Nat.mul-le-mul_left}
use Rattle.std.proofs.lemmas.Nat.{le-div}
use Rattle.patterns.specs.Tests.{blocks, max_pieces}
use Rattle.generator.specs.Generated.{AreFewPieces}

pub fewer_pieces : (classes few many : ℕ) → few ≤ many → AreFewPieces classes many
    → AreFewPieces classes few
fewer_pieces classes few many less within =
    let fewer : blocks few ≤ blocks many = omega arith in
    let product = mul-le-mul_left classes fewer in
    omega (arith, product, within)

pub one_block : (classes : ℕ) → classes ≤ max_pieces → 1 ≤ max_pieces / max classes 1
one_block classes few = le-div 1 max_pieces (max classes 1) (omega arith) (omega (arith, few))
