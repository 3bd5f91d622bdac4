use Rattle.std.proofs.lemmas.Option.{slice_get_within}
use Rattle.generator.proofs.Detected.{first_detects}
use Rattle.generator.proofs.keeping.needed_tests.Goals as goal

pub mark_needed-requires-clause-within : goal.mark_needed-requires-clause-within
mark_needed-requires-clause-within c = λ t has.
    let job = c.args.job.now in
    let is = first_detects job c.args.classes.now c.args.firsts.now c.tests.ensures.together
    c.requires.classes c.requires.firsts t has in
    let detects = is.2 in
    slice_get_within job.tests.tests t detects.0 detects.1
