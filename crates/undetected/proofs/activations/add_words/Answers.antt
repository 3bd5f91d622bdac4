use Rattle.std.proofs.Common.{◌≡◌, ◌<◌, arith, false, length, rules, slice_index_or, true}
use Rattle.undetected.proofs.AddedTests.{added, still_set}
use Rattle.undetected.proofs.activations.add_words.Goals as goal

pub returns-then-not-flags-signal-clause-after : goal.returns-then-not-flags-signal-clause-after
returns-then-not-flags-signal-clause-after c = λ start before.
    let flags = c.args.flags.now in
    let clear : slice_index_or flags c.args.signal false ≡ false = search rules in
    let within : c.args.signal < length flags = omega (arith, c.requires.signal, c.requires.room) in
    added c.args.job.now c.args.bit start c.args.group c.args.signal flags
    c.activates_in_group.result before within clear c.activates_in_group.ensures

pub returns-else-not-flags-signal-clause-after : goal.returns-else-not-flags-signal-clause-after
returns-else-not-flags-signal-clause-after c = λ start before.
    let flags = c.args.flags.now in
    let set : slice_index_or flags c.args.signal false ≡ true = search rules in
    still_set c.args.job.now c.args.bit start c.args.group c.args.signal flags before set
