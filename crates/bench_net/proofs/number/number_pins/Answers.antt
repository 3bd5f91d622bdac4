use Rattle.std.proofs.{Common.{◌∙◌, arith, inr}, lemmas.List.Folds.{list_all-map, list_all_at}}
use Rattle.std.proofs.lemmas.Result.{err_from_is_err_and}
use Rattle.bench_net.specs.reader.{Parsed.names_of, Entries.is_in}
use Rattle.bench_net.proofs.number.number_pins.Goals as goal

pub returns-in_err-number-clause-refused : goal.returns-in_err-number-clause-refused
returns-in_err-number-clause-refused c =
    let known = is_in (names_of c.args.names.now.keys) in
    let p = err_from_is_err_and c.from_residual.result c.from_residual.ensures.1 in
    let off = list_all-map known (λ a. a.now) c.args.arguments.now
    ∙ list_all_at (λ a. known a.now) c.args.arguments.now c.loop-argument.argument-index _
    (omega arith) c.in_err-number.ensures.missing in
    rw (p.1, p.2) (inr (c.in_err-number.ensures.refused, off))
