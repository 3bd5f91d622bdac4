use Rattle.std.proofs.lemmas.Result.{err_from_is_err_and}
use Rattle.byte_output.specs.Output.{TakesAll, TakesFront}
use Rattle.report.proofs.ReportsOfTexts.{taken_of_circuit}
use Rattle.report.proofs.text.list_circuit.Goals as goal

pub returns-in_err-write_listing-clause-written : goal.returns-in_err-write_listing-clause-written
returns-in_err-write_listing-clause-written g c =
    let p = err_from_is_err_and c.from_residual-in_err-write_listing.result
    c.from_residual-in_err-write_listing.ensures.1 in
    rw (p.1, p.2) (taken_of_circuit c.args.model c.args.circuit.now c.in_ok-list.list
    c.in_ok-classes.classes (TakesFront _ _) c.in_ok-list.ensures c.in_ok-classes.ensures.classes
    c.in_err-write_listing.ensures)

pub returns-clause-written : goal.returns-clause-written
returns-clause-written g c =
    taken_of_circuit c.args.model c.args.circuit.now c.in_ok-list.list c.in_ok-classes.classes
    (TakesAll _ _) c.in_ok-list.ensures c.in_ok-classes.ensures.classes
    c.in_ok-write_listing.ensures
