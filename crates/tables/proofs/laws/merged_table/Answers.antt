use Rattle.std.proofs.Common.{refl}
use Rattle.tables.proofs.laws.merged_table.Goals as goal

pub returns : goal.returns
returns c = λ run first others merged lines format circuit of all is accepted.
    let firsts = c.merged_firsts.ensures run first others merged circuit of all is accepted in
    (circuit, firsts.0, merged.firsts, accepted, firsts.1, firsts.2, refl)
