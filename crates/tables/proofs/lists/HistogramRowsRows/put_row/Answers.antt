use Rattle.std.proofs.Common.{◌≡◌, ◌<◌, ◌∙◌, ◌++◌, [], ap, arith, get_or, length, map, rules, subst}
use Rattle.std.{proofs.Common.sym, specs.Prelude.OnOk, specs.List.enumerate_from}
use Rattle.std.proofs.lemmas.List.{get_or-map, length-map}
use Rattle.std.proofs.lemmas.List.FromFn.{get_or-enumerate_from, length-enumerate_from}
use Rattle.table_rows.specs.Cells.{cell_in}
use Rattle.tables.specs.Lists.{count_row}
use Rattle.tables.proofs.lists.HistogramRowsRows.put_row.Goals as goal

pub bounds-self-row : goal.bounds-self-row
bounds-self-row c =
    let faults = c.args.self.now.faults.now in
    omega (arith, length-map (enumerate_from 0 faults) count_row, length-enumerate_from 0 faults)

pub offset_bounds-self-row : goal.offset_bounds-self-row
offset_bounds-self-row c =
    let faults = c.args.self.now.faults.now in
    let lt : c.args.row < length faults = omega (
      arith,
      length-map (enumerate_from 0 faults) count_row,
      length-enumerate_from 0 faults,
    ) in
    search rules

pub returns : goal.returns
returns c =
    let faults = c.args.self.now.faults.now in
    let row = c.args.row in
    let pairs = enumerate_from 0 faults in
    let long = length-enumerate_from 0 faults in
    let all = length-map pairs count_row in
    let lt : row < length faults = omega (arith, all, long) in
    let own : get_or (map count_row pairs) row [] ≡ count_row (row, get_or faults row 0) =
    get_or-map count_row pairs row (row, 0) [] (omega (arith, lt, long))
    ∙ ap count_row (get_or-enumerate_from 0 faults row (row, 0) lt
    ∙ ap (λ k. (k, get_or faults row 0)) (omega arith)) in
    subst (λ t. OnOk c.add_cells.result (map cell_in c.add_cells.new.cells.items
    ≡ map cell_in c.args.cells.now.items ++ t)) (sym own)
    (rw (c.from.ensures) at c.add_cells.ensures)
