use Rattle.std.proofs.Common.{sym, length, arith}
use Rattle.bench_net.{specs.NameText.cut_names, proofs.NameTexts.{name_cut, name_within, text_at}}
use Rattle.bench_net.proofs.name_table.name_at.Goals as goal

pub slice_bounds-name-count : goal.slice_bounds-name-count
slice_bounds-name-count c =
    let within = name_within (length c.args.text.now) 0 c.args.ends.now c.args.place
    c.requires.ends c.requires.below in
    rw c.start_of.ensures within.0

pub slice_bounds-name-start : goal.slice_bounds-name-start
slice_bounds-name-start c =
    let within = name_within (length c.args.text.now) 0 c.args.ends.now c.args.place
    c.requires.ends c.requires.below in
    omega (arith, c.start_of.ensures, within.0, within.1)

pub slice_bounds-name-end : goal.slice_bounds-name-end
slice_bounds-name-end c =
    let within = name_within (length c.args.text.now) 0 c.args.ends.now c.args.place
    c.requires.ends c.requires.below in
    omega (arith, c.start_of.ensures, within.0, within.1)

pub from_utf8_unchecked-requires : goal.from_utf8_unchecked-requires
from_utf8_unchecked-requires c = rw c.start_of.ensures
    (text_at (cut_names c.args.text.now 0 c.args.ends.now) c.args.place _ c.requires.texts
    (name_cut c.args.text.now 0 c.args.ends.now c.args.place c.requires.below))

pub returns : goal.returns
returns c = rw (c.from_utf8_unchecked.ensures, c.start_of.ensures)
    (sym (name_cut c.args.text.now 0 c.args.ends.now c.args.place c.requires.below))
