use Rattle.std.proofs.Common.{length, ap, arith}
use Rattle.bench_net.proofs.NameTexts.{name_count}
use Rattle.bench_net.proofs.name_table.NameTable.get.Goals as goal

pub name_at-requires-clause-below : goal.name_at-requires-clause-below
name_at-requires-clause-below c =
    let count = name_count c.self.inside.text.items 0 c.self.inside.ends.items in
    omega (arith, c.requires, count, ap length c.self.view_is, ap length c.deref-2.ensures.value)
