use Rattle.fault_model.proofs.FollowedClasses.{ends_kept}
use Rattle.fault_model.proofs.classes.follow_chains.Goals as goal

pub follow_all-requires-clause-ends : goal.follow_all-requires-clause-ends
follow_all-requires-clause-ends c =
    ends_kept c.args.list.now.model c.args.circuit.now c.args.class_of.now
    c.follow_stems.new.class_of c.requires.ends c.follow_stems.ensures.kept
