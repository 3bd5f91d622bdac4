use Rattle.std.proofs.Common.{◌<◌, length, arith}
use Rattle.block_sim.specs.declared.propagation.Extent.TheVariants.{WholeBlock}
use Rattle.block_sim.{specs.Propagation.IsSettled, proofs.FlipLanes.{flip_first, flips}}
use Rattle.block_sim.proofs.{FlipsInLanes.flip_decided, ObservedStems.observed_flip}
use Rattle.flat_circuit.specs.Words.{test_of}
use Rattle.block_sim.proofs.propagation.flip_in_lanes.Goals as goal

pub propagate-requires-clause-first : goal.propagate-requires-clause-first
propagate-requires-clause-first c =
    let w = c.requires.words in
    let s = c.args.signal in
    let good = c.args.view.good.now in
    let delta = c.args.changes.now.overlay in
    let within : s < length delta = omega (arith, c.requires.signal, c.requires.room.overlay) in (
      w.0,
      w.1,
      flips good s,
      flip_first c.args.view.circuit.now.arranged c.requires.view.circuit.well_formed w.0 w.1 good
          w.2 s c.requires.signal delta c.args.lanes within,
    )

pub returns-then-is_observed-clause-detection : goal.returns-then-is_observed-clause-detection
returns-then-is_observed-clause-detection c = λ tests group words k lt own. (
  λ e. observed_flip c.args.view.circuit.now.arranged (test_of tests group k) c.args.signal
      c.requires.view.circuit.well_formed (c.is_observed.ensures.0 c.if-is_observed.true),
  λ d. own,
)

pub returns-clause-detection : goal.returns-clause-detection
returns-clause-detection c = λ tests group words k lt own.
    let s = c.args.signal in
    let good = c.args.view.good.now in
    let circuit = c.args.view.circuit.now.arranged in
    let well = c.requires.view.circuit.well_formed in
    let delta = c.args.changes.now.overlay in
    let lanes = c.args.lanes in
    let seen = c.propagate.result in
    let within : s < length delta = omega (arith, c.requires.signal, c.requires.room.overlay) in
    let first = flip_first circuit well tests group good words s c.requires.signal delta lanes
    within in
    flip_decided circuit well tests group good words s c.requires.signal lanes seen
    (IsSettled WholeBlock seen) (c.propagate.ensures.shown tests group (flips good s) first)
    (λ j never. never) k lt own
