use Rattle.std.proofs.Common.{◌≡◌, ◌<◌, ◌≤◌, ◌∙◌, ℕ, arith, length, subst, sym}
use Rattle.std.specs.Prelude.{All, Contains}
use Rattle.bench_net.specs.Scan.{names}
use Rattle.fault_model.specs.{Fault.Fault, Reordered.moved_fault}
use Rattle.flat_circuit.{specs.Stuck.stuck_fault, proofs.Public.reordered}
use Rattle.blocking_pins.specs.Counting.{AreAdded, BlocksInLane, StopsReached}
use Rattle.blocking_pins.{specs.Effects.{AreFaulty, IsTouched}, proofs.Adding.added_same}
use Rattle.blocking_pins.proofs.GroupBlocks.{blocks_reached, pins_room, reached_blocks}
use Rattle.blocking_pins.proofs.VecRows.{all_at}
use Rattle.blocking_pins.proofs.counting.add_group.Goals as goal

pub add_reached-requires-clause-places : goal.add_reached-requires-clause-places
add_reached-requires-clause-places c = λ place kind reads e.
    let given = c.signals-signals.ensures.given.well_formed in
    let room = pins_room c.args.tables.words.circuit.now.statements
    c.args.view.circuit.now.arranged c.requires.view.circuit given
    (reordered c.args.tables.words.circuit.now.statements c.args.view.circuit.now.arranged given
    c.requires.arranged) c.args.tables.pins.now.pins.items c.args.tables.pins.now.starts.items
    c.requires.pins place kind reads e in
    omega (arith, room, c.requires.count)

pub returns-clause-added : goal.returns-clause-added
returns-clause-added c = λ tests group f words moved.
    let given = c.signals-signals.ensures.given.well_formed in
    let circuit = c.args.tables.words.circuit.now.statements in
    let there = c.args.view.circuit.now.arranged in
    let good = c.args.view.good.now in
    let lanes = c.args.view.lanes in
    let delta = c.words.result.now in
    let reached = c.deref.result.now in
    let pins = c.args.tables.pins.now.pins.items in
    let starts = c.args.tables.pins.now.starts.items in
    let is = reordered circuit there given c.requires.arranged in
    let faulty : AreFaulty there (moved_fault circuit there f) good lanes delta =
    subst (λ x. AreFaulty there x good lanes delta) moved
    (subst (AreFaulty there (stuck_fault c.args.fault) good lanes) (sym c.words.ensures)
    c.in_ok-spread.ensures.faulty) in
    let touched : (g : ℕ) → IsTouched there (moved_fault circuit there f) delta g
    → Contains reached g =
    subst (λ x. (g : ℕ) → IsTouched there x delta g → Contains reached g) moved
    (subst (λ l. (g : ℕ) → IsTouched there (stuck_fault c.args.fault) l g → Contains reached g)
    (sym c.words.ensures) (subst (λ l. (g : ℕ) → IsTouched there (stuck_fault c.args.fault)
    c.spread.new.effect.overlay g → Contains l g) (sym c.deref.ensures.value)
    c.in_ok-spread.ensures.touched)) in
    let listed : All (λ s. s < length (names there)) reached =
    subst (All (λ s. s < length (names there))) (sym c.deref.ensures.value)
    c.in_ok-spread.ensures.listed in
    let own : AreAdded c.args.number
    (StopsReached there (moved_fault circuit there f) good delta lanes starts reached)
    c.args.counts.now c.add_reached.new.counts c.args.row.now c.add_reached.new.row =
    subst (λ x. AreAdded c.args.number (StopsReached there x good delta lanes starts reached)
    c.args.counts.now c.add_reached.new.counts c.args.row.now c.add_reached.new.row) moved
    c.add_reached.ensures in
    let within : (g : ℕ) → Contains reached g → g < length (names there) =
    λ g at. all_at (λ s. s < length (names there)) reached g listed at in
    added_same c.args.number
    (StopsReached there (moved_fault circuit there f) good delta lanes starts reached)
    (BlocksInLane circuit tests group lanes f pins) c.args.counts.now c.add_reached.new.counts
    c.args.row.now c.add_reached.new.row
    (reached_blocks circuit there given is tests group f good delta lanes words faulty pins
    starts reached c.requires.pins touched within)
    (blocks_reached circuit there given is tests group f good delta lanes words faulty pins
    starts reached c.requires.pins touched within) own
