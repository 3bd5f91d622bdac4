use Rattle.std.proofs.Common.{◌≡◌, ◌≤◌, ◌++◌, ◌∙◌, ℕ, List, ap, arith, length, map, sym, take}
use Rattle.std.proofs.Common.{take_all}
use Rattle.bench_net.specs.{declared.ScanCell.ScanCell, Statement.Statement}
use Rattle.bench_net.specs.Scan.{cells, outputs, signal}
use Rattle.block_sim.proofs.ResponseRows.{observed_are, observed_few, observed_within, seconds}
use Rattle.block_sim.proofs.response.observed_signals.Goals as goal

gathered : (c : List Statement) (observed : List ℕ) (items : List ScanCell) (i : ℕ)
    → length items ≤ i → observed ≡ map (signal c) (outputs c)
    ++ map (λ (cell : ScanCell). cell.d) (take i items)
    → map {B = ℕ × ℕ} (λ (cell : ScanCell). (cell.q, cell.d)) items ≡ map (λ cell. (
      signal c cell.0,
      signal c cell.1,
    )) (cells c) → observed ≡ map (signal c) (outputs c) ++ map (λ cell. signal c cell.1) (cells c)
gathered c observed items i le is stand =
    is ∙ (ap (λ xs. map (signal c) (outputs c) ++ map (λ (cell : ScanCell). cell.d) xs)
    (take_all i items le) ∙ ap (λ xs. map (signal c) (outputs c)
    ++ xs) (seconds (λ (cell : ScanCell). cell.d) (λ (cell : ScanCell). cell.q) items (cells c)
    (λ cell. signal c cell.0) (λ cell. signal c cell.1) stand))

pub returns-clause-signals : goal.returns-clause-signals
returns-clause-signals c =
    let items = c.scan_cells-cell-items.result.now in
    gathered c.args.circuit.now c.loop-cell.observed.items items c.loop-cell.cell-index
    (omega (arith, c.loop-cell-test.false)) c.loop-cell.invariant c.scan_cells-cell-items.ensures
    ∙ sym (observed_are c.args.circuit.now)

pub returns-clause-within : goal.returns-clause-within
returns-clause-within c =
    let items = c.scan_cells-cell-items.result.now in
    observed_within c.args.circuit.now c.loop-cell.observed.items
    c.signals-signals.ensures.circuit.well_formed
    (gathered c.args.circuit.now c.loop-cell.observed.items items c.loop-cell.cell-index
    (omega (arith, c.loop-cell-test.false)) c.loop-cell.invariant c.scan_cells-cell-items.ensures
    ∙ sym (observed_are c.args.circuit.now))

pub returns-clause-few : goal.returns-clause-few
returns-clause-few c =
    let items = c.scan_cells-cell-items.result.now in
    let few = observed_few c.args.circuit.now c.loop-cell.observed.items
    c.signals-signals.ensures.circuit
    (gathered c.args.circuit.now c.loop-cell.observed.items items c.loop-cell.cell-index
    (omega (arith, c.loop-cell-test.false)) c.loop-cell.invariant
    c.scan_cells-cell-items.ensures) in
    omega (arith, few)
