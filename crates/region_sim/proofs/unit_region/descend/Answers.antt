use Rattle.std.proofs.Common.{◌≡◌, ◌<◌, ◌∙◌, ℕ, List, ap, arith, length, refl, subst, sym}
use Rattle.std.{specs.Prelude.Some, proofs.lemmas.List.length-set}
use Rattle.fault_model.specs.Solution.{Test}
use Rattle.wide_words.specs.Wide.{number}
use Rattle.region_sim.specs.{Pack.AreRows, Sensitized.{IsPathTo, on_from}}
use Rattle.region_sim.{specs.Units.{AreKnownInUnit, CarryFlip}, proofs.UnitRegions.known_more}
use Rattle.region_sim.proofs.SensitizedLanes.{no_path, path_shorter, same_first}
use Rattle.flat_circuit.proofs.Public.{pin_law}
use Rattle.block_sim.proofs.Public.{read_within}
use Rattle.region_sim.proofs.unit_region.descend.Goals as goal

pub loop-signal-init : goal.loop-signal-init
loop-signal-init g c = record {
  path = c.requires.path;
  first = refl;
  known = λ stem before e. (
    before,
    λ tests group rows. before.each c.args.from.signal c.args.from.lanes e tests group rows,
  );
  signals = refl;
  capacity = refl;
}

pub lanes_before-lanes-requires-clause-read : goal.lanes_before-lanes-requires-clause-read
lanes_before-lanes-requires-clause-read g c =
    let circuit = c.args.circuit.now.arranged in
    let at = c.loop-signal.at.signal in
    (path_shorter circuit c.pop.new.self.items c.in-Some.signal at
    (subst (λ l. IsPathTo circuit l at) c.in-Some.ensures.items c.loop-signal.invariant.path)).0

pub keep-requires : goal.keep-requires
keep-requires g c =
    let circuit = c.args.circuit.now.arranged in
    let well = c.requires.circuit.well_formed in
    let at = c.loop-signal.at.signal in
    let s = c.in-Some.signal in
    let alone = (path_shorter circuit c.pop.new.self.items s at
    (subst (λ l. IsPathTo circuit l at) c.in-Some.ensures.items c.loop-signal.invariant.path)).0 in
    let low = read_within circuit at s well (pin_law circuit well s at alone).reads in
    omega (arith, low, c.requires.signals, c.loop-signal.invariant.signals)

pub loop-signal-preserved : goal.loop-signal-preserved
loop-signal-preserved g c =
    let circuit = c.args.circuit.now.arranged in
    let layout = g.C.Copies.layout in
    let good = g.C.Copies.rows c.args.copies in
    let well = c.requires.circuit.well_formed in
    let last = c.loop-signal.invariant in
    let at = c.loop-signal.at.signal in
    let s = c.in-Some.signal in
    let items = c.in-Some.ensures.items in
    let word = c.lanes_before-lanes.result in
    let both = path_shorter circuit c.pop.new.self.items s at
    (subst (λ l. IsPathTo circuit l at) items last.path) in
    let low = read_within circuit at s well (pin_law circuit well s at both.0).reads in
    let within : s < length c.loop-signal.known = omega (
      arith,
      low,
      c.requires.signals,
      last.signals,
    ) in
    let next = c.lanes_before-lanes.ensures in
    let len = c.in-Some.ensures.cases in
    record {
      path = both.1;
      first = sym (same_first c.pop.new.self.items s at) ∙ (sym (ap (λ l. on_from l at) items)
          ∙ last.first);
      known = λ stem before e.
          let now = last.known stem before e in
          let own : (tests : List Test) (group : ℕ → ℕ) → AreRows circuit tests layout group good
          → CarryFlip circuit tests layout group s stem (number word) =
          λ tests group rows. next tests group stem rows (now.1 tests group rows)
          in (
            subst (AreKnownInUnit circuit layout good stem) (sym c.keep.ensures)
                (known_more c.loop-signal.known s word within circuit layout good stem now.0 own),
            own,
          );
      signals = ap length c.keep.ensures
          ∙ (length-set c.loop-signal.known s (Some word) ∙ last.signals);
      capacity = c.in-Some.ensures.capacity ∙ last.capacity;
    }

pub returns-clause-carries : goal.returns-clause-carries
returns-clause-carries g c = λ stem before e tests group rows.
    let circuit = c.args.circuit.now.arranged in
    let last = c.loop-signal.invariant in
    let at = c.loop-signal.at in
    let none : length c.loop-signal.path.items ≡ 0 = sym c.loop-signal.path.ok.0
    ∙ c.in_default.ensures.cases.0 in
    let first = sym last.first ∙ no_path c.loop-signal.path.items at.signal none in
    subst (λ s. CarryFlip circuit tests g.C.Copies.layout group s stem (number at.lanes))
    (sym first) ((last.known stem before e).1 tests group rows)

pub returns-clause-known : goal.returns-clause-known
returns-clause-known g c = λ stem before e. (c.loop-signal.invariant.known stem before e).0
