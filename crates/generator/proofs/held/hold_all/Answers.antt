use Rattle.std.proofs.lemmas.Option.{slice_get-get_or}
use Rattle.generator.proofs.HeldInputs.{fault_here, so_far_all, so_far_more, so_far_none}
use Rattle.generator.proofs.held.hold_all.Goals as goal

pub loop-place-init : goal.loop-place-init
loop-place-init c =
    so_far_none c.args.circuit.now c.args.held.now c.args.bits.now c.requires.count c.requires.none

pub loop-place-preserved : goal.loop-place-preserved
loop-place-preserved c =
    so_far_more c.args.circuit.now c.args.held.now c.loop-place.place c.loop-place.bits _
    c.loop-place.invariant
    (slice_get-get_or c.args.held.now c.loop-place.place _ c.loop-place-test.true)
    c.hold_one.new.bits c.in-Ok.ensures.set

pub returns-in-Err-clause-refused : goal.returns-in-Err-clause-refused
returns-in-Err-clause-refused c =
    fault_here c.args.circuit.now c.args.held.now c.loop-place.place c.loop-place.bits _
    c.loop-place.invariant
    (slice_get-get_or c.args.held.now c.loop-place.place _ c.loop-place-test.true)
    c.in-Err.reason c.in-Err.ensures.refused

pub returns-clause-bits : goal.returns-clause-bits
returns-clause-bits c =
    so_far_all c.args.circuit.now c.args.held.now c.loop-place.place c.loop-place.bits
    c.loop-place-test.false c.loop-place.invariant
