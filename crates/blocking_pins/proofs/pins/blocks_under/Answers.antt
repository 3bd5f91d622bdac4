use Rattle.std.proofs.Common.{◌≡◌, ◌<◌, ◌∙◌, ℕ, Vec, Global, ap, arith, get_or, length, refl, subst}
use Rattle.std.{proofs.Common.{sym, true}, specs.Prelude.{◌/◌, ◌%◌, Some, slice_get}}
use Rattle.std.proofs.lemmas.{List.{get_or_default, length-map}, Option.get_or_from_slice_get}
use Rattle.flat_circuit.specs.Words.{lane}
use Rattle.blocking_pins.proofs.{VecRows.{row_at, rows_of}, pins.blocks_under.Goals.After-index}
use Rattle.blocking_pins.proofs.pins.blocks_under.Goals as goal

row_within : (c : After-index) → c.args.test / 128 < length (rows_of c.args.tally.now.rows.items)
row_within c =
    let long = length-map c.args.tally.now.rows.items (λ (row : Vec ℕ Global). row.items) in
    omega (arith, long, c.requires.rows)

row_is : (c : After-index) → slice_get (rows_of c.args.tally.now.rows.items) (c.args.test / 128)
    ≡ Some c.index.result.now.items
row_is c = row_at c.args.tally.now.rows.items (length (rows_of c.args.tally.now.rows.items))
    (c.args.test / 128) c.index.result.now refl (row_within c) c.index.ensures

at_within : (c : After-index) → c.args.at < length c.index.result.now.items
at_within c = subst (λ l. c.args.at < length l)
    (get_or_from_slice_get (rows_of c.args.tally.now.rows.items) (c.args.test / 128)
    c.index.result.now.items c.index.result.now.items (row_is c))
    (c.requires.at (c.args.test / 128) c.index.result.now.items (row_within c))

pub index-requires-2 : goal.index-requires-2
index-requires-2 c =
    let lt = at_within (goal.at.index-requires-2 c).After-index in
    omega (arith, lt, c.index.result.now.ok.0)

pub returns : goal.returns
returns c =
    let a = (goal.at.returns c).After-index in
    let word : c.index-2.result.now ≡ get_or c.index.result.now.items c.args.at 0 =
    c.index-2.ensures ∙ get_or_default c.index.result.now.items c.args.at c.index-2.result.now 0
    (at_within a) in
    let is : c.has_lane.result
    ≡ lane (get_or c.index.result.now.items c.args.at 0) (c.args.test % 128) =
    c.has_lane.ensures ∙ ap (λ w. lane w (c.args.test % 128)) word in (
      λ on. (c.index.result.now.items, row_is a, sym is ∙ on),
      λ h. let same : h.0 ≡ c.index.result.now.items = same_some h.0 c.index.result.now.items
          (sym h.1 ∙ row_is a) in
          is ∙ (ap (λ l. lane (get_or l c.args.at 0) (c.args.test % 128)) (sym same) ∙ h.2),
    )
  where
    same_some : {X : Type 0} (x y : X) → Some x ≡ Some y → x ≡ y
    same_some x y e = cc
