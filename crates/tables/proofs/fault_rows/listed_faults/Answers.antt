use Rattle.std.proofs.Common.{◌<◌, ◌≤◌, ◌∙◌, ◌++◌, ◌∷◌, [], ap, arith, length, map, sym}
use Rattle.std.specs.List.{filter}
use Rattle.list_lemmas.proofs.Places.{within_place}
use Rattle.tables.specs.Tables.{has_row, values_in}
use Rattle.tables.proofs.RowsByPairs.{all_numbered, place_added, place_skipped}
use Rattle.tables.proofs.fault_rows.listed_faults.Goals as goal

pub loop-fault-preserved-then-not-has_row : goal.loop-fault-preserved-then-not-has_row
loop-fault-preserved-then-not-has_row c =
    let list = c.args.list.now.list in
    let k = c.loop-fault.fault in
    let lt : k < length list = omega arith in
    let at = within_place list k lt in
    c.loop-fault.invariant ∙ sym (place_skipped list (values_in c.args.column).values
    (has_row c.args.lines) k at.0 c.value.result at.1 c.value.ensures
    (sym c.has_row.ensures ∙ c.if-not-has_row.true))

pub loop-fault-preserved : goal.loop-fault-preserved
loop-fault-preserved c =
    let list = c.args.list.now.list in
    let k = c.loop-fault.fault in
    let lt : k < length list = omega arith in
    let at = within_place list k lt in
    c.in_ok-push.ensures.items ∙ (ap (λ l. l ++ k ∷ []) c.loop-fault.invariant
    ∙ sym (place_added list (values_in c.args.column).values (has_row c.args.lines) k at.0
    c.value.result at.1 c.value.ensures (sym c.has_row.ensures ∙ c.if-not-has_row.false)))

pub returns : goal.returns
returns c =
    let list = c.args.list.now.list in
    let le : length list ≤ c.loop-fault.fault = omega arith in
    c.loop-fault.invariant
    ∙ ap (λ l. map (λ at. at.0) (filter (λ at. has_row c.args.lines at.1.1) l))
    (all_numbered list (values_in c.args.column).values c.loop-fault.fault le)
