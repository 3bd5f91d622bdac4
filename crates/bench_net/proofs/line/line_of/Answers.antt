use Rattle.std.proofs.{Common.{◌∙◌, arith, refl, sym}, lemmas.Option.slice_get_read}
use Rattle.bench_net.proofs.LineTables.{line_at}
use Rattle.bench_net.proofs.line.line_of.Goals as goal

pub offset_bounds-lines-place : goal.offset_bounds-lines-place
offset_bounds-lines-place c =
    let at = line_at c.args.lines.now _ c.args.signal c.requires.definitions c.requires.below in
    omega (arith, c.requires.few, at.0)

pub bounds-lines-place : goal.bounds-lines-place
bounds-lines-place c = (line_at _ _ c.args.signal c.requires.definitions c.requires.below).0

pub returns : goal.returns
returns c =
    let at = line_at c.args.lines.now _ c.args.signal c.requires.definitions c.requires.below in
    sym at.1 ∙ slice_get_read c.args.lines.now _ _ _ refl at.0 c.index-lines-place.is
