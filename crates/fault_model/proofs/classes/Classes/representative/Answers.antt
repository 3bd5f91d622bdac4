use Rattle.std.proofs.{Common.{length, refl}, lemmas.Option.slice_get_read}
use Rattle.fault_model.proofs.classes.Classes.representative.Goals as goal

pub returns : goal.returns
returns c =
    let within = rw (← c.self.view_is) at c.requires in
    rw (← c.self.view_is) (slice_get_read c.self.inside.representative.items
    (length c.self.inside.representative.items) c.args.class c.index.result.now refl within
    c.index.ensures)
