use Rattle.std.proofs.Common.{◌≡◌, ◌++◌, map, take}
use Rattle.bench_net.specs.Scan.{outputs, signal}
use Rattle.block_sim.proofs.response.observed_signals.Given as goal

abbrev pub invariant-loop-cell : goal.invariant-loop-cell
invariant-loop-cell l = l.observed.items ≡ map (signal l.circuit) (outputs l.circuit)
    ++ map (λ cell. cell.d) (take l.cell-index l.cell-items)
