use Rattle.std.proofs.Common.{◌≡◌, ◌<◌, ◌∙◌, [], arith, false, get_or, length, sym}
use Rattle.std.proofs.lemmas.{List.same_lists, Option.{get_or_from_slice_get, slice_get-get_or}}
use Rattle.generator.proofs.keeping.read_row.Goals as goal

pub returns : goal.returns
returns c =
    let tests = c.args.tests.now in
    let own = get_or tests.tests c.args.test [] in
    let long : length own ≡ tests.width =
    c.width-source-end.ensures.tests.each c.args.test [] c.requires.test in
    same_lists c.loop-source.row own (c.loop-source.auto.row ∙ (c.requires.row ∙ sym long))
    (λ k d lt.
    let within : k < tests.width = omega (arith, lt, c.loop-source.auto.row, c.requires.row) in
    let in_own : k < length own = omega (arith, within, long) in
    c.loop-source.invariant k d
    (omega (arith, within, c.width-source-end.ensures.width, c.loop-source-test.false)) ∙ sym
    (get_or_from_slice_get own k (get_or own k false) d (slice_get-get_or own k false in_own)))
