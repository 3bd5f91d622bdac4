use Rattle.std.proofs.Common.{sym, arith}
use Rattle.bench_net.proofs.sinks.add_lines.Goals as goal

pub add_pins-requires : goal.add_pins-requires
add_pins-requires c =
    let fit = c.requires.pins c.line-item.result (_, omega arith, sym c.line-item.is) in
    grind (arith, fit, c.in-Gate.is, c.as_slice.ensures)
