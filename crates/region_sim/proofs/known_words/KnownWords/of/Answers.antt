use Rattle.std.{proofs.Common.{◌∙◌, ap, arith, length}, specs.Prelude.{None, slice_index_or}}
use Rattle.region_sim.proofs.KnownWords.{known_count, known_here, unknown_here}
use Rattle.region_sim.proofs.known_words.KnownWords.of.Goals as goal

pub index-requires : goal.index-requires
index-requires c =
    let own = c.self.inside in
    let count = known_count own.unit own.marks.items own.words.items c.self.invariant.count in
    let seen = ap length c.self.view_is in
    omega (arith, count, seen, c.requires, own.marks.ok.0, c.self.invariant.count)

pub index-requires-then-index-self : goal.index-requires-then-index-self
index-requires-then-index-self c =
    let own = c.self.inside in
    let count = known_count own.unit own.marks.items own.words.items c.self.invariant.count in
    let seen = ap length c.self.view_is in
    omega (arith, count, seen, c.requires, own.words.ok.0)

pub returns-then-index-self : goal.returns-then-index-self
returns-then-index-self c =
    let own = c.self.inside in
    let count = known_count own.unit own.marks.items own.words.items c.self.invariant.count in
    let seen = ap length c.self.view_is in
    known_here own.unit own.marks.items own.words.items c.args.signal c.index.result.now
    c.index-then-index-self.result.now c.self.invariant.count
    (omega (arith, count, seen, c.requires)) c.index.ensures c.index-then-index-self.ensures
    c.if-index-self.true ∙ ap (λ l. slice_index_or l c.args.signal None) c.self.view_is

pub returns-else-index-self : goal.returns-else-index-self
returns-else-index-self c =
    let own = c.self.inside in
    let count = known_count own.unit own.marks.items own.words.items c.self.invariant.count in
    let seen = ap length c.self.view_is in
    unknown_here own.unit own.marks.items own.words.items c.args.signal c.index.result.now
    c.self.invariant.count (omega (arith, count, seen, c.requires)) c.index.ensures
    c.if-index-self.false ∙ ap (λ l. slice_index_or l c.args.signal None) c.self.view_is
