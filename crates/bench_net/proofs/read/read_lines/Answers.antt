use Rattle.std.proofs.Common.{inr, arith, [], append-nil, ◌∙◌, sym, refl}
use Rattle.std.proofs.lemmas.Result.{err_from_is_err_and}
use Rattle.bench_net.specs.reader.{Parsed.names_of, Entries.{AreWithin, names_in}}
use Rattle.bench_net.proofs.NumberedLines.{past, within, assembled, counted_few, counted_past}
use Rattle.bench_net.proofs.read.read_lines.Goals.{After-number_names}
use Rattle.bench_net.proofs.read.read_lines.Goals as goal

fits : (c : After-number_names) → AreWithin c.args.text.now c.as_slice-stated.result.now
fits c = within c.args.text.now c.as_slice-stated.result.now
    (rw c.as_slice-stated.ensures.value c.in_ok-read.ensures.ok) (omega arith)
    (counted_few _ _ c.counts_of.result c.counts_of.ensures c.in_default.ensures.none)

pub returns-in-Some-clause-refused : goal.returns-in-Some-clause-refused
returns-in-Some-clause-refused c = inr (past c.args.text.now c.as_slice-stated.result.now
    (rw c.as_slice-stated.ensures.value c.in_ok-read.ensures.ok) (omega arith) c.in-Some.limit
    (counted_past _ _ c.counts_of.result c.in-Some.limit c.counts_of.ensures
    c.in-Some.ensures.past))

pub number_lines-requires-clause-own : goal.number_lines-requires-clause-own
number_lines-requires-clause-own c = (
  [],
  [],
  c.in_ok-numbers.ensures.numbered ∙ sym (append-nil (names_in c.as_slice-stated.result.now)),
  refl,
)

pub returns-in_err-numbers-clause-refused : goal.returns-in_err-numbers-clause-refused
returns-in_err-numbers-clause-refused c =
    let p = err_from_is_err_and c.from_residual-in_err-numbers.result
    c.from_residual-in_err-numbers.ensures.1 in
    rw (p.1, p.2) (c.in_err-numbers.ensures.refused c.args.text.now
    (fits (goal.at.returns-in_err-numbers-clause-refused c).After-number_names))

pub returns-in_err-lines-clause-refused : goal.returns-in_err-lines-clause-refused
returns-in_err-lines-clause-refused c =
    let p = err_from_is_err_and c.from_residual-in_err-lines.result
    c.from_residual-in_err-lines.ensures.1 in
    rw (p.1, p.2) (c.in_err-lines.ensures.refused c.in_ok-numbers.ensures.numbered
    c.in_ok-numbers.ensures.once c.args.text.now
    (fits (goal.at.returns-in_err-lines-clause-refused c).After-number_names))

pub returns-clause-lines : goal.returns-clause-lines
returns-clause-lines c = rw c.in_ok-names.ensures.named
    (assembled c.args.text.now c.as_slice-stated.result.now
    (fits (goal.at.returns-clause-lines c).After-number_names)
    (names_of c.in_ok-numbers.numbers.keys) c.in_ok-lines.lines.items c.in_ok-at.at.items
    c.in_ok-numbers.ensures.numbered c.in_ok-numbers.ensures.once c.in_ok-lines.ensures.numbered
    c.in_ok-at.ensures)
