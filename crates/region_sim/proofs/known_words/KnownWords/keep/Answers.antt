use Rattle.std.{proofs.Common.{◌∙◌, ap, arith, length}, specs.Prelude.{Some, slice_set}}
use Rattle.region_sim.proofs.KnownWords.{known_count, known_more}
use Rattle.region_sim.proofs.known_words.KnownWords.keep.Goals as goal

pub index_mut-requires : goal.index_mut-requires
index_mut-requires c =
    let own = c.self.inside in
    let count = known_count own.unit own.marks.items own.words.items c.self.invariant.count in
    let seen = ap length c.self.view_is in
    omega (arith, count, seen, c.requires, own.words.ok.0)

pub index_mut-requires-2 : goal.index_mut-requires-2
index_mut-requires-2 c =
    let own = c.self.inside in
    let count = known_count own.unit own.marks.items own.words.items c.self.invariant.count in
    let seen = ap length c.self.view_is in
    omega (arith, count, seen, c.requires, own.marks.ok.0, c.self.invariant.count)

pub returns : goal.returns
returns c =
    let own = c.self.inside in
    known_more own.unit own.marks.items own.words.items c.args.signal c.args.word
    c.self.invariant.count ∙ ap (λ l. slice_set l c.args.signal (Some c.args.word)) c.self.view_is
