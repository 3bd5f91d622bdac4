-- The numbers of pieces, classes and blocks.
use Rattle.std.proofs.Common.{◌≡◌, ℕ, zero, suc, ◌+◌, ◌*◌, ◌<◌, ◌≤◌, refl, ◌∙◌, arith}
use Rattle.std.proofs.Math.Nat.{add-mul-mod_self_left, mod-eq_of_lt, add-mul-div_left, div-eq_of_lt}
use Rattle.std.proofs.Math.Nat.{mul-le-mul_left, mod-add-div, div-lt_iff_lt-mul}
use Rattle.fault_ledger.specs.declared.Shape.{Shape}
use Rattle.fault_ledger.specs.History.{block_count, piece_count, class_of, block_of, piece_at}

pub class_of-at : (s : Shape) (class block : ℕ) → class < s.classes
    → class_of s (piece_at s class block) ≡ class
class_of-at s class block l = add-mul-mod_self_left class s.classes block ∙ mod-eq_of_lt l

pub block_of-at : (s : Shape) (class block : ℕ) → class < s.classes
    → block_of s (piece_at s class block) ≡ block
block_of-at s class block l =
    omega (arith, add-mul-div_left class block {y = s.classes} (omega arith), div-eq_of_lt l)

pub piece_at-below : (s : Shape) (class block : ℕ) → class < s.classes → block < block_count s
    → piece_at s class block < piece_count s
piece_at-below s class block l m =
    let e : block + 1 ≤ block_count s = omega arith in
    let f : s.classes * (block + 1) ≤ s.classes * block_count s = mul-le-mul_left s.classes e in
    omega arith

-- a class with a block has a piece, and without pieces it has no block
pub class-below : (s : Shape) (class block : ℕ) → class < s.classes → block < block_count s
    → class < piece_count s
class-below s class block l m = let a = piece_at-below s class 0 l (omega arith) in omega arith

pub no_block : (s : Shape) (class : ℕ) → class < s.classes → piece_count s ≤ class
    → block_count s ≡ 0
no_block s class l none = go (block_count s) refl
  where
    go : (n : ℕ) → block_count s ≡ n → block_count s ≡ 0
    go zero e = e
    go (suc n) e = let a = class-below s class 0 l (omega arith) in absurd (omega arith)

pub some_class : (s : Shape) (p : ℕ) → p < piece_count s → 0 < s.classes
some_class s p l = go s.classes l
  where
    go : (n : ℕ) → p < n * block_count s → 0 < n
    go zero l = absurd (omega arith)
    go (suc n) l = omega arith

pub block_of-below : (s : Shape) (p : ℕ) → p < piece_count s → block_of s p < block_count s
block_of-below s p l = (div-lt_iff_lt-mul {k = s.classes} {x = p} {y = block_count s}
    (some_class s p l)).1 (omega arith)

pub at-of : (s : Shape) (p : ℕ) → piece_at s (class_of s p) (block_of s p) ≡ p
at-of s p = mod-add-div p s.classes
