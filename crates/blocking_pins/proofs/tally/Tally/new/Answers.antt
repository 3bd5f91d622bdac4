use Rattle.std.proofs.Common.{◌≡◌, ◌∙◌, ℕ, List, [], ◌∷◌, ◌++◌, ap, arith, length, map, refl, subst}
use Rattle.std.{proofs.Common.sym, specs.Prelude.All, proofs.lemmas.List.length-append}
use Rattle.std.proofs.lemmas.List.Elements.{All-nil}
use Rattle.blocking_pins.proofs.VecRows.{all_pushed, rows_of}
use Rattle.blocking_pins.proofs.tally.Tally.new.Goals as goal

abbrev IsZero : ℕ → List ℕ → Type 0
IsZero pins row = (length row ≡ pins) × All (λ word. word ≡ 0) row

pub loop-group-init : goal.loop-group-init
loop-group-init c =
    let none = c.in_ok-rows.ensures.items in
    record {
      count = ap length none;
      rows = subst (λ l. All (IsZero c.args.pins) (rows_of l)) (sym none)
          (All-nil (IsZero c.args.pins));
    }

pub loop-group-preserved : goal.loop-group-preserved
loop-group-preserved c =
    let items = c.in_ok-push.ensures.items in
    let long = length-append c.loop-group.rows.items (c.in_ok-zero_row.field-0 ∷ []) in
    record {
      count = ap length items ∙ omega (arith, long, c.loop-group.invariant.count);
      rows = subst (λ l. All (IsZero c.args.pins) (rows_of l)) (sym items)
          (all_pushed (IsZero c.args.pins) c.loop-group.rows.items c.in_ok-zero_row.field-0
          c.loop-group.invariant.rows
          (c.in_ok-zero_row.ensures.count, c.in_ok-zero_row.ensures.zero));
    }

pub returns-clause-groups : goal.returns-clause-groups
returns-clause-groups c = omega (
  arith,
  c.loop-group.invariant.count,
  c.loop-group-test.false,
  c.loop-group.auto._group-end,
)

pub returns-clause-rows : goal.returns-clause-rows
returns-clause-rows c = c.loop-group.invariant.rows
