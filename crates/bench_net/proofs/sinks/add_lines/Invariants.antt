use Rattle.std.proofs.Common.{◌≡◌, ◌≤◌, ◌++◌, drop}
use Rattle.bench_net.specs.Tables.{line_readers}
use Rattle.bench_net.proofs.sinks.add_lines.Given as goal

abbrev pub invariant-loop-line : goal.invariant-loop-line
invariant-loop-line l = record {
  count : l.cell ≤ l.line-index;
  read : l.readers.items ++ line_readers l.cell
      (drop l.line-index l.lines) ≡ l.fn.readers.items ++ line_readers 0 l.lines;
}
