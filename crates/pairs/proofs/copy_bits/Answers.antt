use Rattle.std.proofs.Common.{◌≡◌, ◌<◌, ◌≤◌, ◌+◌, ◌-◌, ◌++◌, ◌∙◌, [], ap, arith, drop, false}
use Rattle.std.proofs.{Common.{get_or, inl, inr, length, sym, take}, lemmas.Bool.cases_lt}
use Rattle.std.proofs.lemmas.{List.same_lists, Option.{get_or_from_slice_get, slice_get-get_or}}
use Rattle.pairs.proofs.PairRows.{joined_left, joined_length, joined_right}
use Rattle.pairs.proofs.copy_bits.Goals as goal

pub returns : goal.returns
returns c =
    let tests = c.args.tests.now in
    let own = get_or tests.tests c.args.test [] in
    let from = c.args.from in
    let at = c.args.at in
    let old = c.args.row.now in
    let row = c.loop-source.row in
    let wide = c.width-source-end.ensures.width in
    let same = c.loop-source.auto.row in
    let long : length own ≡ tests.width =
    c.width-source-end.ensures.tests.each c.args.test [] c.requires.test in
    let within : at ≤ length old = omega (arith, c.requires.width, c.requires.source) in
    let count = joined_length old own at from within in
    same_lists row _ (omega (arith, count, long, same, c.requires.width, c.requires.source))
    (λ k d lt. elim (cases_lt k at) [
      | inl low ↦ c.loop-source.invariant.kept k d low
          ∙ sym (joined_left old own at from k d within low)
      | inr le ↦
          let j = k - at in
          let place : k ≡ at + j = omega (arith, le) in
          let inside : from + j < tests.width = omega (
            arith,
            lt,
            same,
            place,
            c.requires.width,
            c.requires.source,
          ) in
          let in_own : from + j < length own = omega (arith, inside, long) in
          ap (λ i. get_or row i d) place ∙ (c.loop-source.invariant.copied j d
          (omega (arith, inside, wide, c.loop-source-test.false))
          ∙ (sym (get_or_from_slice_get own (from + j) (get_or own (from + j) false) d
          (slice_get-get_or own (from + j) false in_own))
          ∙ (sym (joined_right old own at from j d within)
          ∙ ap (λ i. get_or (take at old ++ drop from own) i d) (sym place))))
    ])
