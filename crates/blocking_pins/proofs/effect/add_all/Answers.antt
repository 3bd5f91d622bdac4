use Rattle.std.proofs.Common.{◌≡◌, ◌≢◌, ◌<◌, ◌+◌, ◌∙◌, ℕ, ap, arith, length, refl, sym, subst}
use Rattle.std.{specs.Prelude.{Contains, slice_index_or}, proofs.lemmas.List.length-set}
use Rattle.blocking_pins.proofs.Waiting.{AreAddedTo, added_all, added_one, added_start}
use Rattle.blocking_pins.proofs.effect.add_all.Goals as goal

pub loop-signal-init : goal.loop-signal-init
loop-signal-init c = record {
  room = refl;
  added = added_start c.args.signals.now c.args.waiting.now;
}

pub add-requires : goal.add-requires
add-requires c =
    let lt = c.requires c.loop-signal.signal-index 0 c.loop-signal-test.true in
    omega (arith, lt, c.loop-signal.invariant.room)

pub loop-signal-preserved : goal.loop-signal-preserved
loop-signal-preserved c =
    let items = c.args.signals.now in
    let i = c.loop-signal.signal-index in
    let signal = slice_index_or items i 0 in
    let lt = c.requires i 0 c.loop-signal-test.true in
    let within : signal < length c.loop-signal.waiting = omega (
      arith,
      lt,
      c.loop-signal.invariant.room,
    ) in
    record {
      room = ap length c.add.ensures
          ∙ (length-set c.loop-signal.waiting signal 1 ∙ c.loop-signal.invariant.room);
      added = subst (AreAddedTo items (i + 1) c.args.waiting.now) (sym c.add.ensures)
          (added_one items i c.args.waiting.now c.loop-signal.waiting c.loop-signal-test.true
          c.loop-signal.invariant.added within);
    }

pub returns-clause-all : goal.returns-clause-all
returns-clause-all c = added_all c.args.signals.now c.loop-signal.signal-index c.args.waiting.now
    c.loop-signal.waiting c.loop-signal-test.false c.loop-signal.invariant.added

pub returns-clause-only : goal.returns-clause-only
returns-clause-only c = c.loop-signal.invariant.added.only
