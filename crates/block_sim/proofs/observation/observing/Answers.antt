use Rattle.std.proofs.Common.{◌≡◌, ◌<◌, ◌∙◌, ℕ, ◌+◌, ◌*◌, ◌/◌, ap, arith, length, subst, sym}
use Rattle.std.specs.{Prelude.bit_and, Bool.Decides}
use Rattle.bench_net.specs.Scan.{names}
use Rattle.patterns.specs.Tests.{TestList}
use Rattle.fault_model.specs.Reordered.{place}
use Rattle.flat_circuit.specs.{BlockSpans.{IsInSpan, one_block}, Words.{lane, test_of}}
use Rattle.flat_circuit.proofs.Public.{reordered, circuit_there, lanes_decide}
use Rattle.block_sim.{specs.Flips.DetectsFlip, proofs.ArrangedRoom.room_there}
use Rattle.block_sim.proofs.{ObservingTests.observing_lanes, ReorderedGates.same_flips}
use Rattle.block_sim.proofs.observation.observing.Goals as goal

pub of-good-requires : goal.of-good-requires
of-good-requires c = omega (arith, c.requires.block, c.words-words.ensures.count)

pub place_of-place-requires : goal.place_of-place-requires
place_of-place-requires c =
    subst (λ x. c.args.signal < length (names x)) (sym c.words-words.ensures.part) c.requires.signal

pub flip_in_lanes-seen-requires-clause-view : goal.flip_in_lanes-seen-requires-clause-view
flip_in_lanes-seen-requires-clause-view c = record {
  circuit = circuit_there c.args.job.now.circuit c.words-words.result.circuit.now.arranged
      c.words-words.ensures.together.circuit c.words-words.ensures.arranged;
  count = (c.words-words.ensures.fault_free (c.args.block / 2) c.of-good.result.now
      c.of-good.ensures).0;
}

pub flip_in_lanes-seen-requires-clause-words : goal.flip_in_lanes-seen-requires-clause-words
flip_in_lanes-seen-requires-clause-words c = (
  c.args.job.now.tests.tests,
  c.args.block / 2,
  (c.words-words.ensures.fault_free (c.args.block / 2) c.of-good.result.now c.of-good.ensures).1,
)

pub flip_in_lanes-seen-requires-clause-room : goal.flip_in_lanes-seen-requires-clause-room
flip_in_lanes-seen-requires-clause-room c =
    let circuit = c.args.job.now.circuit in
    let well = c.words-words.ensures.together.circuit.well_formed in
    let changes = c.workspace.inside.changes in
    let signals : length changes.overlay ≡ c.args.workspace.now.signals =
    ap (λ r. r.signals) c.workspace.view_is in
    room_there circuit c.words-words.result.circuit.now.arranged well c.words-words.ensures.arranged
    changes (record {
      overlay = omega (arith, signals, c.requires.fits);
      gates = omega (arith, signals, c.requires.fits, c.workspace.invariant.gates);
    })

pub returns-clause-lanes : goal.returns-clause-lanes
returns-clause-lanes c =
    let job = c.args.job.now in
    let circuit = job.circuit in
    let there = c.words-words.result.circuit.now.arranged in
    let well = c.words-words.ensures.together.circuit.well_formed in
    let tests = job.tests.tests in
    let block = c.args.block in
    let span = one_block block in
    let group = block / 2 in
    let lanes = c.test_lanes-lanes.result in
    let seen = c.flip_in_lanes-seen.result in
    let own = subst (λ (t : TestList). (k : ℕ) → k < 128
    → Decides (lane lanes k) (IsInSpan (length t.tests) span (128 * group + k)))
    c.tests-tests.ensures.part c.test_lanes-lanes.ensures in
    let words = (c.words-words.ensures.fault_free group c.of-good.result.now c.of-good.ensures).1 in
    let stem : c.place_of-place.result ≡ place circuit there c.args.signal =
    c.place_of-place.ensures.place
    ∙ ap (λ x. place x there c.args.signal) c.words-words.ensures.part in
    let same = same_flips circuit there well
    (reordered circuit there well c.words-words.ensures.arranged) in
    observing_lanes circuit tests block c.args.signal (bit_and lanes seen) c.block_word.result
    (λ j lt. lanes_decide lanes seen j (own j lt) (λ is.
    let law = same.detected (test_of tests group j) c.args.signal in
    let h = subst (λ s. Decides (lane seen j) (DetectsFlip there (test_of tests group j) s)) stem
    (c.flip_in_lanes-seen.ensures.detection tests group words j lt ((own j lt).1 is)) in
    (λ e. law.1 (h.0 e), λ d. h.1 (law.0 d)))) c.block_word.ensures
