use Rattle.std.proofs.Common.{rules, ◌≡◌, ◌+◌, ◌-◌, ◌≤◌, ◌++◌, ◌∙◌, ap, arith, drop, length}
use Rattle.std.{proofs.Common.{length-drop, subst, sym, take, take_all}, specs.List.slice_range}
use Rattle.test_threads.specs.Pieces.{IsFilled, IsLineEnd, IsOpenAt}
use Rattle.test_threads.proofs.SharedFile.{AreLines-cut, AreLines-last, IsOpenAt-more, nothing_left}
use Rattle.test_threads.proofs.shared_file.read_lines.Goals as goal

pub returns-then-filled-buffer-clause-lines : goal.returns-then-filled-buffer-clause-lines
returns-then-filled-buffer-clause-lines g c = λ text known.
    let before = g.F.Read.remaining c.args.open.file in
    let left = g.F.Read.remaining c.fill.new.file in
    let rest = c.args.open.rest.items in
    let place = c.args.open.place in
    let kept = c.in_ok-kept.kept in
    let filled = c.in_ok-filled.filled in
    let buffer = c.fill.new.buffer in
    let is : IsFilled before left c.keep_rest.new.buffer buffer kept filled = search rules in
    let held : take kept c.keep_rest.new.buffer ≡ rest = search rules in
    let holds : rest ++ is.added ≡ take filled buffer =
    ap (λ l. l ++ is.added) (sym held) ∙ sym is.holds in
    let at : IsOpenAt text left (take filled buffer) place =
    subst (λ l. IsOpenAt text left l place) holds
    (IsOpenAt-more text before left rest is.added place (c.args.open.known text known) is.read) in
    let end : c.in_ok-end.end ≡ place + filled = search rules in
    AreLines-last text left buffer place filled c.in_ok-end.end at is.within
    (is.all (search rules)) end

pub invariant_of-result : goal.invariant_of-result
invariant_of-result g c = record {
  ended = λ text known.
      let before = g.F.Read.remaining c.args.open.file in
      let left = g.F.Read.remaining c.fill.new.file in
      let rest = c.args.open.rest.items in
      let place = c.args.open.place in
      let kept = c.in_ok-kept.kept in
      let filled = c.in_ok-filled.filled in
      let is : IsFilled before left c.keep_rest.new.buffer c.fill.new.buffer kept filled =
      search rules in
      let at : IsOpenAt text left (rest ++ is.added) place =
      IsOpenAt-more text before left rest is.added place (c.args.open.known text known) is.read in
      nothing_left left (drop (place + length (rest ++ is.added)) text) at.left_is
      (is.all (search rules));
}

pub invariant_of-more : goal.invariant_of-more
invariant_of-more g c = record {
  known = λ text known.
      let before = g.F.Read.remaining c.args.open.file in
      let left = g.F.Read.remaining c.fill.new.file in
      let rest = c.args.open.rest.items in
      let place = c.args.open.place in
      let kept = c.in_ok-kept.kept in
      let filled = c.in_ok-filled.filled in
      let count = c.in_ok-count.count in
      let buffer = c.fill.new.buffer in
      let is : IsFilled before left c.keep_rest.new.buffer buffer kept filled = search rules in
      let held : take kept c.keep_rest.new.buffer ≡ rest = search rules in
      let full : length buffer ≤ filled = search rules in
      let holds : rest ++ is.added ≡ buffer =
      ap (λ l. l ++ is.added) (sym held) ∙ (sym is.holds ∙ take_all filled buffer full) in
      let at : IsOpenAt text left buffer place = subst (λ l. IsOpenAt text left l place) holds
      (IsOpenAt-more text before left rest is.added place (c.args.open.known text known) is.read) in
      let cut : IsLineEnd buffer count = search rules in
      let end : c.in_ok-end-2.end ≡ place + count = search rules in
      let items : c.extend_from_slice.new.self.items ≡ slice_range buffer count filled =
      search rules in
      let own : slice_range buffer count filled ≡ drop count buffer =
      take_all (filled - count) (drop count buffer) (omega (
        arith,
        full,
        length-drop count buffer,
      )) in
      subst (λ l. IsOpenAt text left l c.in_ok-end-2.end) (sym (items ∙ own))
      (AreLines-cut text left buffer place count c.in_ok-end-2.end at cut end).1;
}

pub returns-clause-lines : goal.returns-clause-lines
returns-clause-lines g c = λ text known.
    let before = g.F.Read.remaining c.args.open.file in
    let left = g.F.Read.remaining c.fill.new.file in
    let rest = c.args.open.rest.items in
    let place = c.args.open.place in
    let kept = c.in_ok-kept.kept in
    let filled = c.in_ok-filled.filled in
    let count = c.in_ok-count.count in
    let buffer = c.fill.new.buffer in
    let is : IsFilled before left c.keep_rest.new.buffer buffer kept filled = search rules in
    let held : take kept c.keep_rest.new.buffer ≡ rest = search rules in
    let full : length buffer ≤ filled = search rules in
    let holds : rest ++ is.added ≡ buffer =
    ap (λ l. l ++ is.added) (sym held) ∙ (sym is.holds ∙ take_all filled buffer full) in
    let at : IsOpenAt text left buffer place = subst (λ l. IsOpenAt text left l place) holds
    (IsOpenAt-more text before left rest is.added place (c.args.open.known text known) is.read) in
    let cut : IsLineEnd buffer count = search rules in
    let end : c.in_ok-end-2.end ≡ place + count = search rules in
    (AreLines-cut text left buffer place count c.in_ok-end-2.end at cut end).0
