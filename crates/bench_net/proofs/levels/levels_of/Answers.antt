use Rattle.std.proofs.{Common.{◌≡◌, arith, rules}, lemmas.List.get_or_default}
use Rattle.std.proofs.lemmas.Result.{err_from_is_err_and}
use Rattle.bench_net.{specs.Level.greatest, proofs.LevelSearch.greatest-at}
use Rattle.bench_net.proofs.PinRows.{pin_graph, levels_by_rows, fault_by_rows}
use Rattle.bench_net.proofs.levels.levels_of.Goals as goal

pub rows_of-requires-clause-below : goal.rows_of-requires-clause-below
rows_of-requires-clause-below c = λ i d lt.
    let levels = c.in_ok-levels.levels.items in
    let is : c.fold-depth.result ≡ greatest levels = search rules in
    let value = c.deref-2.ensures.value in
    grind (arith, lt, is, value, get_or_default levels i d 0, greatest-at levels i)

pub signal_levels-requires : goal.signal_levels-requires
signal_levels-requires c =
    pin_graph c.args.lines.now _ _ c.in_ok-rows.ensures c.requires.at c.requires.graph

pub returns-clause-levels : goal.returns-clause-levels
returns-clause-levels c = levels_by_rows c.args.lines.now _ _ c.in_ok-rows.ensures c.requires.at
    c.in_ok-levels.levels.items c.in_ok-levels.ensures.levels

pub returns-in_err-levels-clause-fault : goal.returns-in_err-levels-clause-fault
returns-in_err-levels-clause-fault c =
    let p = err_from_is_err_and c.from_residual-in_err-levels.result
    c.from_residual-in_err-levels.ensures.1 in
    rw (p.1, p.2)
    (fault_by_rows c.args.lines.now _ _ c.in_ok-rows.ensures c.requires.at c.args.at.now _
    c.in_err-levels.ensures.fault)
