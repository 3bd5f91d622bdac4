use Rattle.std.{proofs.Common.take, specs.List.flat_map}
use Rattle.byte_output.specs.Output.{TakesAll}
use Rattle.analysis_reports.specs.BlockingReports.{pin_cells, pin_line}
use Rattle.analysis_reports.proofs.blocking.put_pins.Given as goal

-- the lines of the pins so far were taken whole
abbrev pub invariant-loop-pin : goal.invariant-loop-pin
invariant-loop-pin g l = TakesAll (g.W.Out.seen l.initial.out) (g.W.Out.seen l.out)
    (flat_map (λ pin. pin_line (pin_cells l.circuit pin)) (take l.pin-index l.pins))
