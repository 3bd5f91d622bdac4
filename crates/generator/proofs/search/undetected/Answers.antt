use Rattle.generator.proofs.LeftClasses.{left_are}
use Rattle.generator.proofs.search.undetected.Goals as goal

pub returns : goal.returns
returns c = left_are c.args.classes.now c.args.firsts.now c.in_ok-left.left.items
    c.in_ok-left.ensures
