use Rattle.std.{specs.Prelude.slice_index, proofs.lemmas.Option.slice_get-get_or}
use Rattle.n_detect.proofs.faults.count_of.Goals as goal

pub returns : goal.returns
returns c =
    let counted = c.requires.counted in
    let position = slice_index c.args.positions.now c.args.class in
    counted.each c.args.class _ c.requires.class
    (slice_get-get_or c.args.kept.now position 0 (counted.within c.args.class c.requires.class))
