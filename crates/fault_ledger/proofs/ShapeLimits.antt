-- The meaning of the limits of a shape.
use Rattle.std.proofs.Common.{◌≡◌, ℕ, zero, suc, ◌*◌, ◌<◌, ◌≤◌, ◌==◌, Bool, true, false}
use Rattle.std.proofs.Common.{if◌then◌else◌, nat_lt, Some, None, refl, arith}
use borrow.Author.Tests.{ltb-false}
use Rattle.patterns.specs.Tests.{max_pieces}
use Rattle.fault_ledger.specs.declared.{Shape.Shape, LedgerFault.TheVariants.TooManyPieces}
use Rattle.fault_ledger.specs.declared.LedgerFault.TheVariants.{NoWorkers, TooManyWorkers}
use Rattle.fault_ledger.specs.{History.{block_count, piece_count}, Face.shape_fault}

pub shape_small : (s : Shape) → shape_fault s ≡ None
    → (piece_count s ≤ max_pieces) × (s.workers ≤ 64)
shape_small s e =
    go (s.workers == 0) (nat_lt 64 s.workers) (nat_lt max_pieces (piece_count s)) refl refl e
  where
    go : (a b c : Bool) → nat_lt 64 s.workers ≡ b → nat_lt max_pieces (piece_count s) ≡ c
        → (if a then Some NoWorkers else if b then Some TooManyWorkers else if c
        then Some TooManyPieces else None) ≡ None → (piece_count s ≤ max_pieces) × (s.workers ≤ 64)
    go true b c x y e = absurd (cc)
    go false true c x y e = absurd (cc)
    go false false true x y e = absurd (cc)
    go false false false x y e = (ltb-false max_pieces (piece_count s) y, ltb-false 64 s.workers x)

pub few_pieces : (s : Shape) → shape_fault s ≡ None → piece_count s ≤ max_pieces
few_pieces s e = (shape_small s e).0

pub few_blocks : (s : Shape) (class : ℕ) → shape_fault s ≡ None → class < s.classes
    → block_count s ≤ max_pieces
few_blocks s class e l = go s.classes l (few_pieces s e)
  where
    go : (n : ℕ) → class < n → n * block_count s ≤ max_pieces → block_count s ≤ max_pieces
    go zero l m = absurd (omega arith)
    go (suc n) l m = omega arith
