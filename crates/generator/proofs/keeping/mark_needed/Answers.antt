use Rattle.std.proofs.{Common.{arith, Some}, lemmas.Option.slice_get_within}
use Rattle.generator.proofs.keeping.mark_needed.Goals as goal

pub need_one-requires-clause-test : goal.need_one-requires-clause-test
need_one-requires-clause-test c =
    c.requires.within c.in-Some.test (c.loop-place.place, c.in-Some.ensures)

pub returns : goal.returns
returns c =
    let was = c.loop-place.invariant in
    record {
      first = was.first;
      some = λ t h.
          let low = slice_get_within c.args.firsts.now h.0 (Some t) h.1 in
          was.some h.0 t (omega (arith, low, c.requires.count, c.loop-place-test.false)) h.1;
    }
