use Rattle.std.proofs.{Common.{◌≤◌, ◌<◌, length, length-append, arith}, lemmas.List.length-map}
use Rattle.std.proofs.lemmas.Result.{err_from_is_err_and}
use Rattle.bench_net.specs.{declared.BenchFault.TheVariants.Undefined, reader.Parsed.names_of}
use Rattle.bench_net.specs.reader.Entries.{defined_of, names_in}
use Rattle.bench_net.proofs.NumberedLines.{may_be, undefined, next_from, numbered_more, names_fit}
use Rattle.bench_net.proofs.NumberedLines.{from_fits, names_more}
use Rattle.bench_net.proofs.number.number_lines.Goals as goal

pub number_line-requires-clause-own : goal.number_line-requires-clause-own
number_line-requires-clause-own c = rw c.loop-line.invariant.1
    (next_from (names_of c.args.names.now.keys) c.args.first c.args.stated.now
    c.loop-line.line-index c.line-item.result c.requires.own (omega arith) c.line-item.is)

pub returns-in_err-numbered-clause-refused : goal.returns-in_err-numbered-clause-refused
returns-in_err-numbered-clause-refused c =
    let p = err_from_is_err_and c.from_residual-in_err-numbered.result
    c.from_residual-in_err-numbered.ensures.1 in
    λ own once. rw (p.1, p.2) (λ text of.
    may_be text (Undefined c.line-item.result.number) _ _ c.in_err-numbered.ensures.refused
    (undefined text c.args.stated.now of c.loop-line.line-index c.line-item.result
    (omega arith) c.line-item.is (names_of c.args.names.now.keys) c.loop-line.lines.items
    own once c.loop-line.invariant.0))

pub overflow_add-next : goal.overflow_add-next
overflow_add-next c =
    let fits = names_fit c.args.stated.now c.loop-line.line-index c.line-item.result
    (omega arith) c.line-item.is defined_of in
    let keys : length (names_of c.args.names.now.keys) ≤ 1000000 =
    omega (arith, c.requires.few, length-map c.args.names.now.keys (λ a. a.now)) in
    let all = from_fits (names_of c.args.names.now.keys) c.args.first (names_in c.args.stated.now)
    c.requires.own in
    omega (arith, fits, keys, all, c.loop-line.invariant.1)

pub loop-line-preserved : goal.loop-line-preserved
loop-line-preserved c =
    let i = c.loop-line.line-index in
    let line = c.line-item.result in
    let below : i < length c.args.stated.now = omega arith in
    let fits = names_fit c.args.stated.now i line below c.line-item.is defined_of in
    let all = from_fits (names_of c.args.names.now.keys) c.args.first (names_in c.args.stated.now)
    c.requires.own in (
      rw c.in_ok-push.ensures.items (numbered_more _ _ c.loop-line.lines.items i line
          c.in_ok-numbered.numbered c.loop-line.next below c.line-item.is c.loop-line.invariant.0
          (omega (arith, fits, all, c.loop-line.invariant.1)) c.in_ok-numbered.ensures.numbered),
      rw (names_more c.args.stated.now i line below c.line-item.is defined_of, length-append)
          (omega arith),
    )
