use Rattle.std.proofs.Common.{◌≡◌, ◌<◌, ◌∙◌, ℕ, List, ap, arith, length, refl, subst, sym}
use Rattle.std.{specs.Prelude.{None, Some}, proofs.lemmas.List.length-set}
use Rattle.fault_model.specs.Solution.{Test}
use Rattle.region_sim.specs.Sensitized.{AreKnownFlips, CarriesFlip, IsPathTo, on_from}
use Rattle.region_sim.proofs.SensitizedLanes.{flips_more, no_path, path_shorter, same_first}
use Rattle.flat_circuit.{specs.Words.AreWords, proofs.Public.pin_law}
use Rattle.block_sim.proofs.Public.{large_enough, large_none, large_on, read_within}
use Rattle.region_sim.proofs.sensitized.descend.Goals as goal

pub loop-signal-init : goal.loop-signal-init
loop-signal-init c = record {
  path = c.requires.path;
  first = refl;
  known = λ mask stem before e. (
    before,
    λ tests group words. before.each c.args.from.signal c.args.from.lanes e tests group words,
  );
  signals = refl;
  capacity = refl;
  room = large_none c.args.changes.now;
  clear = c.requires.clear;
}

pub lanes_before-lanes-requires-clause-room : goal.lanes_before-lanes-requires-clause-room
lanes_before-lanes-requires-clause-room c =
    large_enough c.args.view.circuit.now.arranged c.args.changes.now c.loop-signal.changes
    c.requires.room c.loop-signal.invariant.room

pub lanes_before-lanes-requires-clause-read : goal.lanes_before-lanes-requires-clause-read
lanes_before-lanes-requires-clause-read c =
    let circuit = c.args.view.circuit.now.arranged in
    let at = c.loop-signal.at.signal in
    (path_shorter circuit c.pop.new.self.items c.in-Some.signal at
    (subst (λ l. IsPathTo circuit l at) c.in-Some.ensures.items c.loop-signal.invariant.path)).0

pub keep-requires : goal.keep-requires
keep-requires c =
    let circuit = c.args.view.circuit.now.arranged in
    let well = c.requires.view.circuit.well_formed in
    let at = c.loop-signal.at.signal in
    let s = c.in-Some.signal in
    let alone = (path_shorter circuit c.pop.new.self.items s at
    (subst (λ l. IsPathTo circuit l at) c.in-Some.ensures.items c.loop-signal.invariant.path)).0 in
    let low = read_within circuit at s well (pin_law circuit well s at alone).reads in
    omega (arith, low, c.requires.signals, c.loop-signal.invariant.signals)

pub loop-signal-preserved : goal.loop-signal-preserved
loop-signal-preserved c =
    let circuit = c.args.view.circuit.now.arranged in
    let good = c.args.view.good.now in
    let well = c.requires.view.circuit.well_formed in
    let last = c.loop-signal.invariant in
    let at = c.loop-signal.at.signal in
    let s = c.in-Some.signal in
    let items = c.in-Some.ensures.items in
    let both = path_shorter circuit c.pop.new.self.items s at
    (subst (λ l. IsPathTo circuit l at) items last.path) in
    let low = read_within circuit at s well (pin_law circuit well s at both.0).reads in
    let within : s < length c.loop-signal.known = omega (
      arith,
      low,
      c.requires.signals,
      last.signals,
    ) in
    let next = c.lanes_before-lanes.ensures in
    let len = c.in-Some.ensures.cases in
    record {
      path = both.1;
      first = sym (same_first c.pop.new.self.items s at) ∙ (sym (ap (λ l. on_from l at) items)
          ∙ last.first);
      known = λ mask stem before e.
          let now = last.known mask stem before e in
          let own : (tests : List Test) (group : ℕ) → AreWords circuit tests group None good
          → CarriesFlip circuit tests group mask s stem c.lanes_before-lanes.result =
          λ tests group words. next.detection tests group mask stem words (now.1 tests group words)
          in (
            subst (AreKnownFlips circuit good mask stem) (sym c.keep.ensures)
                (flips_more c.loop-signal.known s c.lanes_before-lanes.result within circuit good
                mask stem now.0 own),
            own,
          );
      signals = ap length c.keep.ensures
          ∙ (length-set c.loop-signal.known s (Some c.lanes_before-lanes.result) ∙ last.signals);
      capacity = c.in-Some.ensures.capacity ∙ last.capacity;
      room = large_on c.args.changes.now c.loop-signal.changes c.lanes_before-lanes.new.changes
          last.room next.room;
      clear = next.clear;
    }

pub returns-clause-detection : goal.returns-clause-detection
returns-clause-detection c = λ mask stem before e tests group words.
    let circuit = c.args.view.circuit.now.arranged in
    let last = c.loop-signal.invariant in
    let at = c.loop-signal.at in
    let none : length c.loop-signal.path.items ≡ 0 = sym c.loop-signal.path.ok.0
    ∙ c.in_default.ensures.cases.0 in
    let first = sym last.first ∙ no_path c.loop-signal.path.items at.signal none in
    subst (λ s. CarriesFlip circuit tests group mask s stem at.lanes) (sym first)
    ((last.known mask stem before e).1 tests group words)

pub returns-clause-known : goal.returns-clause-known
returns-clause-known c = λ mask stem before e. (c.loop-signal.invariant.known mask stem before e).0
