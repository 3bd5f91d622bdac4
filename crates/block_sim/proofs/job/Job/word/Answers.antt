use Rattle.std.proofs.Common.{◌≡◌, ◌<◌, ◌/◌, ◌∙◌, ap, subst, arith, length, get_or}
use Rattle.std.proofs.lemmas.List.{length-map, get_or_read}
use Rattle.flat_circuit.specs.{BlockSpans.groups, Words.{IsFaultFreeWord, lane}}
use Rattle.flat_circuit.proofs.Public.{mapped_get}
use Rattle.block_sim.proofs.{BitBefore.fault_free_lane, ArrangedWords.word_there}
use Rattle.block_sim.proofs.PartsOfJobs.{whole, seen}
use Rattle.block_sim.proofs.job.Job.word.Goals as goal

pub index-requires : goal.index-requires
index-requires c =
    let own = c.deref-parts.result.now in
    let job = whole c.deref-parts.ensures c.self.invariant in
    let view = seen c.deref-parts.ensures c.self.view_is in
    let counted = length-map own.rows.items (λ row. row.items) in
    let tests = ap (λ p. groups (length p.tests.tests)) view in
    omega (arith, job.count, counted, tests, c.requires.block, own.rows.ok.0)

pub index-requires-2 : goal.index-requires-2
index-requires-2 c =
    let own = c.deref-parts.result.now in
    let job = whole c.deref-parts.ensures c.self.invariant in
    let view = seen c.deref-parts.ensures c.self.view_is in
    let counted = length-map own.rows.items (λ row. row.items) in
    let tests = ap (λ p. groups (length p.tests.tests)) view in
    let within : c.args.block / 2 < length own.rows.items = omega (
      arith,
      job.count,
      counted,
      tests,
      c.requires.block,
    ) in
    let row = job.fault_free (c.args.block / 2) c.index.result.now.items
    (mapped_get (λ row. row.items) own.rows.items
    (c.args.block / 2) c.index.result.now within c.index.ensures) in
    omega (arith, row.0, c.place_of-place.ensures.within, c.index.result.now.ok.0)

pub returns : goal.returns
returns c =
    let own = c.deref-parts.result.now in
    let job = whole c.deref-parts.ensures c.self.invariant in
    let view = seen c.deref-parts.ensures c.self.view_is in
    let counted = length-map own.rows.items (λ row. row.items) in
    let tests = ap (λ p. groups (length p.tests.tests)) view in
    let within : c.args.block / 2 < length own.rows.items = omega (
      arith,
      job.count,
      counted,
      tests,
      c.requires.block,
    ) in
    let row = job.fault_free (c.args.block / 2) c.index.result.now.items
    (mapped_get (λ row. row.items) own.rows.items
    (c.args.block / 2) c.index.result.now within c.index.ensures) in
    let at = c.place_of-place.result in
    let in_row : at < length c.index.result.now.items = omega (
      arith,
      row.0,
      c.place_of-place.ensures.within,
    ) in
    let read : c.index-2.result.now ≡ get_or c.index.result.now.items at 0 =
    get_or_read c.index.result.now.items at _ in_row c.index-2.ensures 0 in
    subst (λ p. IsFaultFreeWord p.circuit p.tests.tests c.args.block c.args.signal
    c.block_word.result) view
    (word_there own.flat.statements own.flat.arranged c.signals-signals.ensures.given.well_formed
    c.signals-signals.ensures.arranged own.tests.tests c.args.block c.args.signal
    c.block_word.result
    (subst (λ s. IsFaultFreeWord own.flat.arranged own.tests.tests c.args.block s
    c.block_word.result) c.place_of-place.ensures.place
    (fault_free_lane own.flat.arranged own.tests.tests c.args.block at
    c.index.result.now.items c.block_word.result c.signals-signals.ensures.circuit.well_formed row.1
    (λ k j lt place. c.block_word.ensures k j lt place ∙ ap (λ w. lane w j) read))))
