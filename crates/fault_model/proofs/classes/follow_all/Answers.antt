use Rattle.fault_model.proofs.StemClasses.{all_next, followed_more}
use Rattle.fault_model.proofs.classes.follow_all.Goals as goal

pub follow-requires-clause-next : goal.follow-requires-clause-next
follow-requires-clause-next c =
    all_next c.args.list.now.model c.args.circuit.now c.loop-fault.class_of c.loop-fault.fault
    c.loop-fault.invariant.stems

pub loop-fault-preserved : goal.loop-fault-preserved
loop-fault-preserved c =
    followed_more c.args.list.now.model c.args.circuit.now c.loop-fault.fault c.loop-fault.class_of
    c.follow.new.class_of c.loop-fault.invariant c.follow.ensures.kept c.follow.ensures.known
