use Rattle.std.proofs.Common.{◌≡◌, ℕ, List, [], None, replicate, min, rules, refl, sym, ap, ◌∙◌}
use Rattle.std.proofs.Common.{subst}
use Rattle.fault_ledger.specs.{declared.Shape.Shape, declared.PieceState.PieceState, Face.face}
use Rattle.fault_ledger.specs.{declared.PieceState.TheVariants.Open, Lowest.AreLowestHits}
use Rattle.fault_ledger.specs.History.{held_by, entry, block_count, piece_count}
use Rattle.fault_ledger.proofs.{ListsByPlace.replicate-below, CallReplies.faced}
use Rattle.fault_ledger.proofs.LowestHits.{lowest-new}
use Rattle.fault_ledger.proofs.sequential.Ledger.new.Goals as goal

opens : (c : goal.In_ok-lowest_hits) → (let s : Shape = record {
  classes = c.args.classes;
  tests = c.args.tests;
  workers = c.args.workers;
} in
    faced s 0 c.in_ok-holding.holding.items c.in_ok-states.states.items ≡ face s [])
opens c =
    let s : Shape =
    record { classes = c.args.classes; tests = c.args.tests; workers = c.args.workers } in
    let a : c.in_ok-holding.holding.items ≡ replicate s.workers None =
    c.in_ok-holding.ensures.items_if_clones_equal (λ y is. search rules) in
    let b = c.in_ok-states.ensures.items_if_clones_equal (λ y is. is) in
    λ i. faced s 0 ((a ∙ replicate-below None (λ w. held_by w []) s.workers (λ w. refl)) i)
    ((b ∙ ap (λ (n : ℕ). replicate n Open) c.pieces.ensures
    ∙ replicate-below Open (λ p. entry p []) (piece_count s) (λ p. refl)) i)

lowest : (c : goal.In_ok-lowest_hits) → (let s : Shape = record {
  classes = c.args.classes;
  tests = c.args.tests;
  workers = c.args.workers;
} in
    AreLowestHits s c.in_ok-states.states.items c.in_ok-lowest_hits.lowest_hits.items)
lowest c =
    let s : Shape =
    record { classes = c.args.classes; tests = c.args.tests; workers = c.args.workers } in
    let states = c.in_ok-states.ensures.items_if_clones_equal (λ y is. is) in
    let hits = c.in_ok-lowest_hits.ensures.items_if_clones_equal (λ y is. is) in
    let blocks : c.blocks-2.result ≡ block_count s = c.blocks-2.ensures in
    let count : c.classes_with_pieces.result ≡ min s.classes (piece_count s) =
    c.classes_with_pieces.ensures in
    subst (λ (l : List PieceState). AreLowestHits s l c.in_ok-lowest_hits.lowest_hits.items)
    (sym states) (subst (λ (l : List ℕ). AreLowestHits s (replicate c.pieces.result Open) l)
    (sym (hits ∙ ap (replicate c.classes_with_pieces.result) blocks))
    (lowest-new s c.classes_with_pieces.result c.pieces.result count))

pub invariant_of-result : goal.invariant_of-result
invariant_of-result c = (
  record { limits = sym c.in_default.ensures; history = ([], tt, opens c) },
  lowest c,
)

pub returns-clause-face : goal.returns-clause-face
returns-clause-face c = opens c

pub returns-in-Some-clause-memory : goal.returns-in-Some-clause-memory
returns-in-Some-clause-memory c = search rules
