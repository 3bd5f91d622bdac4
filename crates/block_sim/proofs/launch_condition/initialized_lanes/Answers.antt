use Rattle.std.proofs.Common.{◌≢◌, ◌+◌, ◌*◌, ◌<◌, ◌^◌, ap, arith, inl, inr, map, subst, sym}
use Rattle.std.specs.{Prelude.{[], bit_and, slice_index_or}, Bool.Decides}
use Rattle.std.proofs.lemmas.Option.{slice_get-get_or}
use Rattle.bench_net.{specs.Scan.{names, signal}, proofs.Public.name_of-signal}
use Rattle.list_lemmas.proofs.Places.{place_within}
use Rattle.fault_model.specs.{Detection.IsInitialized, Fault.Fault, Reordered.moved_line}
use Rattle.fault_model.proofs.Public.{same_bits}
use Rattle.flat_circuit.specs.{Origins.IsStuckOf, Words.lane}
use Rattle.flat_circuit.proofs.Public.{reordered, well_there, carried_is, starts_there}
use Rattle.block_sim.proofs.BitBefore.{fits_where, masked_look_back}
use Rattle.block_sim.proofs.launch_condition.initialized_lanes.Goals.{then-stuck, else-stuck}
use Rattle.block_sim.proofs.launch_condition.initialized_lanes.Goals.{then-group-eq0}
use Rattle.block_sim.proofs.launch_condition.initialized_lanes.Goals.{else-group-eq0}
use Rattle.block_sim.proofs.launch_condition.initialized_lanes.Goals as goal

pub origin_of-origin-requires : goal.origin_of-origin-requires
origin_of-origin-requires c =
    let o = c.requires.stuck in (
      o.0,
      subst (λ x. IsStuckOf x o.0 c.args.stuck) (sym c.words-words.ensures.part) o.1,
    )

pub word_before-before-requires-clause-group : goal.word_before-before-requires-clause-group
word_before-before-requires-clause-group c =
    omega (arith, c.requires.group, c.words-words.ensures.count)

pub word_before-before-requires-clause-signal : goal.word_before-before-requires-clause-signal
word_before-before-requires-clause-signal c = λ k d lt.
    let job = c.args.job.now in
    let circuit = job.circuit in
    let words = c.words-words.result in
    let there = words.circuit.now.arranged in
    let well = c.words-words.ensures.together.circuit.well_formed in
    let arranged = c.words-words.ensures.arranged in
    let named = carried_is circuit there c.requires.stuck.0 c.origin_of-origin.result well arranged
    (starts_there circuit there words.circuit.now.statements c.args.stuck
    c.origin_of-origin.result c.words-words.ensures.part c.origin_of-origin.ensures
    c.requires.stuck.0 c.requires.stuck.1) in
    let low = place_within (names there) (signal there named.0) named.0
    (name_of-signal there named.0 named.2) in
    let rows = map (λ row. row.items) words.rows.now in
    let long = (c.words-words.ensures.fault_free k (slice_index_or rows k d)
    (slice_get-get_or rows k d lt)).0 in
    let is = named.3 in
    omega (arith, low, is, long)

pub returns : goal.returns
returns c = λ f k starts lt listed.
    let job = c.args.job.now in
    let circuit = job.circuit in
    let words = c.words-words.result in
    let there = words.circuit.now.arranged in
    let well = c.words-words.ensures.together.circuit.well_formed in
    let arranged = c.words-words.ensures.arranged in
    let origin = starts_there circuit there words.circuit.now.statements c.args.stuck
    c.origin_of-origin.result c.words-words.ensures.part c.origin_of-origin.ensures f starts in
    let bit = c.args.stuck.at_one in
    let before = c.word_before-before.result in
    let within : before < 2 ^ 128 = omega arith in
    let named = carried_is circuit there f c.origin_of-origin.result well arranged origin in
    let fit = fits_where bit before c.if-stuck.fits k within lt (elim c.if-stuck.branch [
      | then-stuck w ↦ inl (w.if-stuck.true, w.fits-is)
      | else-stuck w ↦ inr (w.if-stuck.false, w.fits-is)
    ]) in
    let all = masked_look_back circuit job.tests.tests c.args.group k before c.if-stuck.fits
    f.line bit lt listed (λ t e.
    let word = c.word_before-before.ensures there job.tests.tests k t
    (moved_line circuit there f.line) named.0 bit
    (well_there circuit there well arranged) c.words-words.ensures.fault_free lt e named.1
    named.2 named.3 in
    let bits = same_bits circuit there well (reordered circuit there well arranged)
    (slice_index_or job.tests.tests t []) f.line bit in
    (λ h. bits.1 (word.0 h), λ h. word.1 (bits.0 h))) fit c.if-group-eq0.earlier
    (elim c.if-group-eq0.branch [
      | then-group-eq0 w ↦ inl (w.if-group-eq0.true, w.earlier-is)
      | else-group-eq0 w ↦ let some : c.args.group ≢ 0 = w.if-group-eq0.false in
          inr (omega (arith, some), w.earlier-is)
    ]) in
    subst (λ b. Decides (lane (bit_and c.if-stuck.fits c.if-group-eq0.earlier) k)
    (IsInitialized circuit job.tests.tests f.line b (128 * c.args.group + k)))
    (ap (λ (x : Fault). x.stuck) starts.is) all
