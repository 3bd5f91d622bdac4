use Rattle.std.proofs.Common.{◌∙◌, length, sym, ap}
use Rattle.bench_net.proofs.NameTexts.{name_count}
use Rattle.bench_net.proofs.name_table.NameTable.len.Goals as goal

pub returns : goal.returns
returns c = c.len.ensures ∙ c.self.inside.ends.ok.0
    ∙ sym (name_count c.self.inside.text.items 0 c.self.inside.ends.items)
    ∙ ap length c.self.view_is
