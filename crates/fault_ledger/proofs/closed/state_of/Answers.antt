use Rattle.std.proofs.Common.{◌+◌, ◌*◌, map, ◌∙◌, arith}
use Rattle.fault_ledger.{specs.Words.state_at, proofs.FieldCodes.{codes_long, state_of_code}}
use Rattle.fault_ledger.proofs.ClassStatus.{shown-within}
use Rattle.fault_ledger.proofs.closed.state_of.Goals as goal

pub bounds-codes-piece : goal.bounds-codes-piece
bounds-codes-piece c =
    let a = shown-within c.args.shape (map state_at c.args.codes.now) c.args.class c.args.block
    c.requires.states c.requires.range.0 c.requires.range.1 in
    let b = codes_long c.args.codes.now in
    omega (arith, a, b)

pub returns : goal.returns
returns c =
    let a = shown-within c.args.shape (map state_at c.args.codes.now) c.args.class c.args.block
    c.requires.states c.requires.range.0 c.requires.range.1 in
    let b = codes_long c.args.codes.now in
    c.state_at.ensures ∙ state_of_code c.args.codes.now (c.args.class
    + c.args.shape.classes * c.args.block) c.from.result (omega (arith, a, b)) c.from.ensures
