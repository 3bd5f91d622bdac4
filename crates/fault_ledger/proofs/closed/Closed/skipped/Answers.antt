use Rattle.std.proofs.Common.{◌≡◌, ◌<◌, ◌≤◌, ◌+◌, length, map, sym, ap, ◌∙◌, arith, eqb, eq-eqb}
use Rattle.std.proofs.{Common.{ne_eqb, get_or}, lemmas.Grind.get_or_default_zero}
use Rattle.std.proofs.lemmas.List.{take_all, Sums.{count_by_more_yes, count_by_more_no}}
use Rattle.std.specs.Prelude.{count_by}
use Rattle.patterns.{specs.Tests.max_pieces, proofs.Public.length-map-below}
use Rattle.fault_ledger.specs.declared.PieceState.TheVariants as state
use Rattle.fault_ledger.specs.{History.{entry, piece_count}, Settled.is_skipped, Seats.ClosedFace}
use Rattle.fault_ledger.{specs.Words.state_at, proofs.ShapeLimits.few_pieces}
use Rattle.fault_ledger.proofs.FieldCodes.{codes_long, state_of_code, skipped_code}
use Rattle.fault_ledger.proofs.closed.Closed.skipped.Goals.{After-self, After-index}
use Rattle.fault_ledger.proofs.closed.Closed.skipped.Goals.{then-from-eq-SKIPPED}
use Rattle.fault_ledger.proofs.closed.Closed.skipped.Goals.{else-from-eq-SKIPPED}
use Rattle.fault_ledger.proofs.closed.Closed.skipped.Goals as goal

-- there are no more codes than pieces
few : (c : After-self) → length c.self.inside.codes.items ≤ max_pieces
few c =
    let i = c.self.inside in
    let are = c.self.invariant.1 in
    let a = few_pieces i.shape c.self.invariant.0 in
    let b : length (map state_at i.codes.items) ≡ piece_count i.shape = ap (λ xs. length xs) are.2
    ∙ length-map-below (λ p. entry p are.0) (piece_count i.shape) in
    let d = codes_long i.codes.items in
    omega (arith, a, b, d)

-- whether the piece is skipped
here : (c : After-index) → is_skipped (get_or c.args.self.now.states c.loop-piece.piece state.Open)
    ≡ eqb c.index.result.now 2
here c =
    let i = c.self.inside in
    let n = c.index.result.now in
    let p = c.loop-piece.piece in
    let l = c.loop-piece-test.true in
    let m = c.len-piece-end.ensures in
    let o = i.codes.ok in
    let within : p < length i.codes.items = omega (arith, l, m, o) in
    let is = state_of_code i.codes.items p n within (c.index.ensures
    ∙ get_or_default_zero i.codes.items p n within) in
    ap is_skipped (ap (λ (f : ClosedFace). get_or f.states p state.Open) (sym c.self.view_is)
    ∙ sym is) ∙ skipped_code n

-- the states are as many
long : (c : After-self) → length c.args.self.now.states ≡ length c.self.inside.codes.items
long c = ap (λ (f : ClosedFace). length f.states) (sym c.self.view_is)
    ∙ codes_long c.self.inside.codes.items

pub overflow_add-skipped : goal.overflow_add-skipped
overflow_add-skipped c =
    let f = few (goal.at.overflow_add-skipped c).After-self in
    let a = c.loop-piece.invariant.few in
    let l = c.loop-piece-test.true in
    let m = c.len-piece-end.ensures in
    let o = c.self.inside.codes.ok in
    omega (arith, f, a, l, m, o)

pub loop-piece-preserved : goal.loop-piece-preserved
loop-piece-preserved c =
    let at = goal.at.loop-piece-preserved c in
    let was = c.loop-piece.invariant in
    let states = c.args.self.now.states in
    let p = c.loop-piece.piece in
    let l = c.loop-piece-test.true in
    let m = c.len-piece-end.ensures in
    let o = c.self.inside.codes.ok in
    let long = long at.After-self in
    let within : p < length states = omega (arith, l, m, o, long) in
    elim c.if-from-eq-SKIPPED.branch [
      | then-from-eq-SKIPPED b ↦ record {
        few = (let e = b.skipped-is in let f = was.few in omega (arith, e, f));
        count = b.skipped-is ∙ ap (λ n. n + 1) was.count
            ∙ sym (count_by_more_yes is_skipped states p state.Open within (here at.After-index
            ∙ eq-eqb c.index.result.now 2 (sym c.from.ensures ∙ b.if-from-eq-SKIPPED.true)));
      }
      | else-from-eq-SKIPPED b ↦ record {
        few = (let e = b.skipped-is in let f = was.few in omega (arith, e, f));
        count = b.skipped-is ∙ was.count
            ∙ sym (count_by_more_no is_skipped states p state.Open within (here at.After-index
            ∙ ne_eqb c.index.result.now 2 (λ e. b.if-from-eq-SKIPPED.false (c.from.ensures ∙ e))));
      }
    ]

pub returns : goal.returns
returns c =
    let at = goal.at.returns c in
    let l = c.loop-piece-test.false in
    let m = c.len-piece-end.ensures in
    let o = c.self.inside.codes.ok in
    let long = long at.After-self in
    c.loop-piece.invariant.count ∙ ap (count_by is_skipped)
    (take_all c.loop-piece.piece c.args.self.now.states (omega (arith, l, m, o, long)))
