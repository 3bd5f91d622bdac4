use Rattle.std.specs.Prelude.{◌^◌}
use Rattle.blocking_pins.proofs.Noting.{noted_again, noted_first}
use Rattle.blocking_pins.proofs.tally.note.Goals as goal

pub returns-then-count-number : goal.returns-then-count-number
returns-then-count-number c =
    noted_first c.args.number c.args.at c.args.lanes c.saturating_add.result c.args.counts.now
    c.args.row.now (record { faults = 0; last = 0 }) c.ranges.lanes.fits c.if-lanes-eq0.false
    c.requires.room c.requires.at c.if-count-number.true c.saturating_add.ensures

pub returns-else-count-number : goal.returns-else-count-number
returns-else-count-number c =
    noted_again c.args.number c.args.at c.args.lanes c.args.counts.now c.args.row.now
    (record { faults = 0; last = 0 }) c.ranges.lanes.fits c.if-lanes-eq0.false
    c.requires.room c.requires.at c.if-count-number.false
