use Rattle.std.{proofs.Common.arith, proofs.lemmas.List.length-map, specs.List.enumerate_from}
use Rattle.std.proofs.lemmas.List.FromFn.{length-enumerate_from}
use Rattle.tables.specs.Lists.{count_row}
use Rattle.tables.proofs.lists.HistogramRowsRows.count.Goals as goal

pub returns : goal.returns
returns c =
    let faults = c.args.self.now.faults.now in
    omega (arith, length-map (enumerate_from 0 faults) count_row, length-enumerate_from 0 faults)
