use Rattle.std.proofs.Common.{◌≡◌, ◌<◌, ℕ, ◌+◌, ◌*◌, sym, ◌∙◌, ap, subst, length, arith}
use Rattle.std.specs.{Prelude.{◌/◌, Contains, Option, bit_and, map, unwrap_or}, Bool.Decides}
use Rattle.std.proofs.lemmas.List.{length-map}
use Rattle.patterns.specs.Tests.{TestList}
use Rattle.fault_model.specs.{Fault.{Fault, faults}, Reordered.{moved_fault, place}}
use Rattle.fault_model.specs.Detection.{name_on}
use Rattle.block_sim.specs.{Propagation.{AreShown, IsSettled}, Flips.AreLanesFor}
use Rattle.block_sim.{specs.ActiveGates.{HasActive, HasActiveIn}, proofs.ArrangedRoom.room_there}
use Rattle.block_sim.proofs.{ArrangedWords.told_there, DetectingTests.active_on_block}
use Rattle.block_sim.proofs.ReorderedGates.{same_active}
use Rattle.flat_circuit.specs.{BlockSpans.{AreInSpan, IsInSpan, one_block}, Stuck.stuck_fault}
use Rattle.flat_circuit.{specs.Words.lane, proofs.Public.{moved_there, lanes_decide}}
use Rattle.flat_circuit.proofs.Public.{reordered, carried_name, circuit_there, listed_there}
use Rattle.block_sim.proofs.workspace.detecting_lanes.Goals as goal

pub propagate_fault-requires-clause-view : goal.propagate_fault-requires-clause-view
propagate_fault-requires-clause-view c =
    let circuit = c.args.job.now.circuit in
    let there = c.words-words.result.circuit.now.arranged in
    let whole = c.words-words.ensures.together.circuit in
    let arranged = c.words-words.ensures.arranged in
    record {
      circuit = circuit_there circuit there whole arranged;
      count = (c.words-words.ensures.fault_free (c.args.block / 2) c.of.result.now c.of.ensures).0;
    }

pub propagate_fault-requires-clause-listed : goal.propagate_fault-requires-clause-listed
propagate_fault-requires-clause-listed c =
    let job = c.args.job.now in
    let circuit = job.circuit in
    let there = c.words-words.result.circuit.now.arranged in
    let arranged = c.words-words.ensures.arranged in
    let well = c.words-words.ensures.together.circuit.well_formed in
    let fault = c.representative-stuck.ensures.0 in
    let starts = c.representative-stuck.ensures.2 in
    let is : stuck_fault c.moved.result ≡ moved_fault circuit there fault =
    moved_there circuit there c.words-words.result.circuit.now.statements fault
    c.representative-stuck.result c.moved.result c.words-words.ensures.part c.moved.ensures
    starts.is in
    subst (λ f. Contains (faults f.model there) f) (sym is)
    (listed_there circuit there well arranged fault.model fault starts.listed)

pub propagate_fault-requires-clause-words : goal.propagate_fault-requires-clause-words
propagate_fault-requires-clause-words c = (
  c.args.job.now.tests.tests,
  c.args.block / 2,
  (c.words-words.ensures.fault_free (c.args.block / 2) c.of.result.now c.of.ensures).1,
)

pub propagate_fault-requires-clause-room : goal.propagate_fault-requires-clause-room
propagate_fault-requires-clause-room c =
    let circuit = c.args.job.now.circuit in
    let well = c.words-words.ensures.together.circuit.well_formed in
    let changes = c.workspace.inside.changes in
    let signals : length changes.overlay ≡ c.args.workspace.now.signals =
    ap (λ r. r.signals) c.workspace.view_is in
    room_there circuit c.words-words.result.circuit.now.arranged well c.words-words.ensures.arranged
    changes (record {
      overlay = omega (arith, signals, c.requires.fits);
      gates = omega (arith, signals, c.requires.fits, c.workspace.invariant.gates);
    })

pub returns-clause-detection : goal.returns-clause-detection
returns-clause-detection c =
    let job = c.args.job.now in
    let circuit = job.circuit in
    let there = c.words-words.result.circuit.now.arranged in
    let arranged = c.words-words.ensures.arranged in
    let well = c.words-words.ensures.together.circuit.well_formed in
    let fault = c.representative-stuck.ensures.0 in
    let starts = c.representative-stuck.ensures.2 in
    let tests = job.tests.tests in
    let block = c.args.block in
    let span = one_block block in
    let group = block / 2 in
    let lanes = bit_and c.test_lanes.result c.launch_lanes.result in
    let own = subst (λ (t : TestList). (k : ℕ) → k < 128
    → Decides (lane c.test_lanes.result k) (IsInSpan (length t.tests) span (128 * group + k)))
    c.tests.ensures.part c.test_lanes.ensures in
    let decides : AreLanesFor tests span circuit fault lanes =
    λ k lt. lanes_decide c.test_lanes.result c.launch_lanes.result k (own k lt)
    (λ is. c.launch_lanes.ensures fault k starts lt is.listed) in
    let is : stuck_fault c.moved.result ≡ moved_fault circuit there fault =
    moved_there circuit there c.words-words.result.circuit.now.statements fault
    c.representative-stuck.result c.moved.result c.words-words.ensures.part c.moved.ensures
    starts.is in
    let words = (c.words-words.ensures.fault_free group c.of.result.now c.of.ensures).1 in
    let good = c.of.result.now in
    let settled = IsSettled c.args.extent c.propagate_fault.result in
    let shown : AreShown there tests group (λ _. moved_fault circuit there fault) good lanes settled
    c.propagate_fault.result =
    subst (λ f. AreShown there tests group (λ _. f) good lanes settled c.propagate_fault.result) is
    (c.propagate_fault.ensures.shown tests group words) in (
      fault,
      c.representative-stuck.ensures.1,
      told_there circuit there well arranged tests span fault good lanes c.propagate_fault.result
          words decides settled shown,
    )

pub returns-clause-counted : goal.returns-clause-counted
returns-clause-counted c = λ r gates at all.
    let job = c.args.job.now in
    let circuit = job.circuit in
    let there = c.words-words.result.circuit.now.arranged in
    let arranged = c.words-words.ensures.arranged in
    let well = c.words-words.ensures.together.circuit.well_formed in
    let fault = c.representative-stuck.ensures.0 in
    let starts = c.representative-stuck.ensures.2 in
    let tests = job.tests.tests in
    let block = c.args.block in
    let span = one_block block in
    let group = block / 2 in
    let lanes = bit_and c.test_lanes.result c.launch_lanes.result in
    let own = subst (λ (t : TestList). (k : ℕ) → k < 128
    → Decides (lane c.test_lanes.result k) (IsInSpan (length t.tests) span (128 * group + k)))
    c.tests.ensures.part c.test_lanes.ensures in
    let decides : AreLanesFor tests span circuit fault lanes =
    λ k lt. lanes_decide c.test_lanes.result c.launch_lanes.result k (own k lt)
    (λ is. c.launch_lanes.ensures fault k starts lt is.listed) in
    let is : stuck_fault c.moved.result ≡ moved_fault circuit there fault =
    moved_there circuit there c.words-words.result.circuit.now.statements fault
    c.representative-stuck.result c.moved.result c.words-words.ensures.part c.moved.ensures
    starts.is in
    let words = (c.words-words.ensures.fault_free group c.of.result.now c.of.ensures).1 in
    let same : r ≡ fault = ap (λ (o : Option Fault). unwrap_or o r) (sym at
    ∙ c.representative-stuck.ensures.1) in
    let within : AreInSpan tests span lanes = λ k lt e. ((decides k lt).0 e).0 in
    let active = (same_active circuit there well (reordered circuit there well arranged)).in_lanes
    tests group lanes (λ _. fault) gates
    (active_on_block circuit tests block fault lanes gates within
    (subst (λ x. HasActive circuit tests block x gates) same all)) in
    let le = c.propagate_fault.ensures.counted tests group (map (place circuit there) gates) words
    (λ k lt e. (within k lt e).listed)
    (subst (λ f. HasActiveIn there tests group lanes (λ _. f) (map (place circuit there) gates))
    (sym is) active) in
    let long = length-map gates (place circuit there) in
    let before : c.workspace.inside.changes.evaluations ≡ c.args.workspace.now.evaluations =
    ap (λ x. x.evaluations) c.workspace.view_is in
    omega (arith, le, long, before)

pub of-requires : goal.of-requires
of-requires c = omega (arith, c.requires.block, c.words-words.ensures.count)

pub launch_lanes-requires-clause-stuck : goal.launch_lanes-requires-clause-stuck
launch_lanes-requires-clause-stuck c =
    (c.representative-stuck.ensures.0, c.representative-stuck.ensures.2)

pub moved-requires : goal.moved-requires
moved-requires c =
    let stands = c.representative-stuck.ensures.2 in
    let n = carried_name c.args.job.now.circuit c.representative-stuck.ensures.0
    c.representative-stuck.result c.words-words.ensures.together.circuit.well_formed stands in (
      n.0,
      ap (λ x. name_on x c.representative-stuck.result.line) c.words-words.ensures.part ∙ n.1,
    )
