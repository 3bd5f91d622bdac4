use Rattle.std.proofs.Common.{◌+◌, ◌*◌, ◌%◌, ◌^◌, ◌≤◌, ap, ◌∙◌, mod-eq_of_lt, pow_mono}
use Rattle.std.proofs.Common.{lt_of_lt_of_le, arith}
use Rattle.fault_ledger.proofs.WordFields.{under}
use Rattle.fault_ledger.proofs.words.in_field.Goals as goal

pub returns : goal.returns
returns c =
    let j = c.args.piece % 8 in
    let fits : 8 + 8 * j ≤ 64 = omega arith in
    let most : 2 ^ (8 + 8 * j) ≤ 2 ^ 64 = pow_mono {j = 64} fits in
    ap (λ n. c.args.code * 2 ^ n % 2 ^ 64) c.lowest_bit.ensures
    ∙ mod-eq_of_lt (lt_of_lt_of_le (under c.args.code j c.requires) most)
