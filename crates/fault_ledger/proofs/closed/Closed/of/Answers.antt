use Rattle.std.proofs.Common.{◌≡◌, ℕ, ◌<◌, Bool, true, false, min, nat_lt, List, map, length}
use Rattle.std.proofs.{Common.{slice_index, refl, arith}, lemmas.List.get_or_past}
use borrow.Author.Tests.{ltb-true, ltb-false}
use Rattle.fault_ledger.specs.{declared.Shape.Shape, declared.PieceState.PieceState, Words.state_at}
use Rattle.fault_ledger.specs.{History.{block_count, piece_count}, Heads.{IsHead, AreHeads}}
use Rattle.fault_ledger.proofs.PieceNumbers.{no_block}
use Rattle.fault_ledger.proofs.closed.Closed.of.Goals as goal

-- no block of a class without a piece is clear
no_head : (s : Shape) (states : List PieceState) (class blocks : ℕ) → block_count s ≡ 0 → blocks ≡ 0
    → IsHead s states class blocks
no_head s states class blocks none e = record {
  most = omega arith;
  clear = λ k l. absurd (omega arith);
  next = λ l. absurd (omega arith);
}

-- the classes that have a piece are among all classes
all_heads : (s : Shape) (states : List PieceState) (heads : List ℕ)
    → length heads ≡ min s.classes (piece_count s) → ((class : ℕ) → class < length heads
    → IsHead s states class (slice_index heads class)) → AreHeads s states heads
all_heads s states heads long each = record {
  long = long;
  each = λ class l. go class l (nat_lt class (length heads)) refl;
}
  where
    go : (class : ℕ) → class < s.classes → (b : Bool) → nat_lt class (length heads) ≡ b
        → IsHead s states class (slice_index heads class)
    go class l true e = each class (ltb-true class (length heads) e)
    go class l false e =
        let past = ltb-false class (length heads) e in
        no_head s states class (slice_index heads class) (no_block s class l (omega arith))
        (get_or_past heads class 0 past)

pub invariant_of-result : goal.invariant_of-result
invariant_of-result c =
    let s = c.args.shape in
    let heads = c.loop-class.clear_blocks in
    let count = c.classes_with_pieces-with_pieces.ensures in
    let end = c.loop-class.auto.class-end in
    let past = c.loop-class-test.false in
    let long = c.loop-class.invariant.long in
    let ok = heads.ok in (
      c.requires.limits,
      c.requires.states,
      all_heads s (map state_at c.args.codes.items) heads.items
          (omega arith) (λ class l. c.loop-class.invariant.each class (omega arith)),
    )
