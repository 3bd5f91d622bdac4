use Rattle.std.proofs.{Common.{length, refl}, lemmas.Option.slice_get_read}
use Rattle.workers.proofs.verdicts.Verdicts.first.Goals as goal

pub returns : goal.returns
returns c =
    let within = rw (← c.self.view_is) at c.requires in
    rw (← c.self.view_is) (slice_get_read c.self.inside.firsts.items
    (length c.self.inside.firsts.items) c.args.fault c.index.result.now refl within c.index.ensures)
