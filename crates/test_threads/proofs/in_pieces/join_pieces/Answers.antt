use Rattle.std.proofs.Common.{rules, ◌≡◌, ◌+◌, ◌≤◌, length, subst, sym, take, take_all, arith}
use Rattle.patterns.specs.{LaterRows.with_tests, Tests.{HasTests, max_tests}}
use Rattle.test_threads.specs.{Stretches.AreTestsBetween, Pieces.AreRowsOf}
use Rattle.test_threads.proofs.{CutTests.HasTests-cut, SharedFile.AreRowsOf-more}
use Rattle.test_threads.proofs.in_pieces.join_pieces.Goals as goal

pub loop-piece-preserved : goal.loop-piece-preserved
loop-piece-preserved g c =
    let was = c.loop-piece.invariant in
    let piece = c.in-Some.piece in
    let all = c.loop-piece.all in
    let width = c.args.width in
    let own : AreRowsOf width piece.tests =
    subst (λ w. AreRowsOf w piece.tests) c.requires piece.rows in
    let here : piece.start ≡ c.loop-piece.place = search rules in
    let room : length all.tests + length piece.tests.tests ≤ max_tests = search rules in
    let added : c.append.new.self ≡ with_tests all piece.tests.tests = search rules in
    record {
      rows = subst (AreRowsOf width) (sym added)
          (AreRowsOf-more width all piece.tests was.rows own room);
      tests = λ text known.
          let is = piece.is text known in
          let between : AreTestsBetween text width c.loop-piece.place piece.end piece.tests =
          subst (λ w. AreTestsBetween text w c.loop-piece.place piece.end piece.tests) c.requires
          (subst (λ n. AreTestsBetween text g.T.TestFile.width n piece.end piece.tests) here
          is.tests) in
          subst (HasTests (take piece.end text) width) (sym added)
          (HasTests-cut text width c.loop-piece.place piece.end all piece.tests
          (was.starts text known) (was.tests text known) between room);
      starts = λ text known. (piece.is text known).tests.until;
      ended = λ text known. (piece.is text known).all;
    }

pub returns-clause-tests : goal.returns-clause-tests
returns-clause-tests g c = λ text known.
    let was = c.loop-piece.invariant in
    let place = c.loop-piece.place in
    let ended : place ≡ length text = was.ended text known (search rules) in
    subst (λ l. HasTests l c.args.width c.loop-piece.all)
    (take_all place text (omega (arith, ended))) (was.tests text known)
