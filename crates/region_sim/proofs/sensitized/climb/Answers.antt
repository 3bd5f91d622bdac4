use Rattle.std.proofs.Common.{◌≡◌, ◌∙◌, ap, arith, subst, sym}
use Rattle.std.specs.Prelude.{Some, None, slice_index_or}
use Rattle.flat_circuit.specs.Regions.{here, lone_reader}
use Rattle.region_sim.specs.Sensitized.{IsPathTo, on_from}
use Rattle.flat_circuit.proofs.Public.{pin_law, lone_within, one_stem_law}
use Rattle.block_sim.proofs.Public.{leads_on}
use Rattle.region_sim.proofs.SensitizedLanes.{path_longer, same_first}
use Rattle.region_sim.proofs.sensitized.climb.Goals as goal

pub loop-lanes-init : goal.loop-lanes-init
loop-lanes-init c = record {
  within = c.requires.within;
  path = subst (λ l. IsPathTo c.args.circuit.now.arranged l c.args.signal)
      (sym c.clear.ensures.items) tt;
  first = ap (λ l. on_from l c.args.signal) c.clear.ensures.items;
  few = omega (arith, c.clear.ensures.len);
  capacity = c.clear.ensures.capacity;
  left = λ r chain. chain.0;
}

pub loop-lanes-smaller : goal.loop-lanes-smaller
loop-lanes-smaller c =
    let circuit = c.args.circuit.now.arranged in
    let well = c.signals-signals.ensures.circuit.well_formed in
    let at = c.loop-lanes.at in
    let gate = c.in-Some-lone_reader.gate in
    let alone = sym c.in-Some-lone_reader.ensures in
    let rise = c.signals-signals.ensures.rising gate at
    (pin_law circuit well at gate alone).reads in
    let low = c.loop-lanes.invariant.within in
    omega (arith, rise, low)

pub loop-lanes-preserved : goal.loop-lanes-preserved
loop-lanes-preserved c =
    let circuit = c.args.circuit.now.arranged in
    let well = c.signals-signals.ensures.circuit.well_formed in
    let last = c.loop-lanes.invariant in
    let at = c.loop-lanes.at in
    let items = c.loop-lanes.path.items in
    let gate = c.in-Some-lone_reader.gate in
    let alone = sym c.in-Some-lone_reader.ensures in
    let rise = c.signals-signals.ensures.rising gate at
    (pin_law circuit well at gate alone).reads in
    let few = last.few in
    let len = c.push_reserved.ensures.len in
    record {
      within = lone_within circuit well at gate alone;
      path = subst (λ l. IsPathTo circuit l gate) (sym c.push_reserved.ensures.items)
          (path_longer circuit items at gate last.path alone);
      first = ap (λ l. on_from l gate) c.push_reserved.ensures.items
          ∙ (same_first items at gate ∙ last.first);
      few = omega (arith, few, len, rise);
      capacity = c.push_reserved.ensures.capacity ∙ last.capacity;
      left = λ r chain. leads_on circuit gate chain.1 alone (last.left r chain);
    }

pub unreachable-requires : goal.unreachable-requires
unreachable-requires c =
    let circuit = c.args.circuit.now.arranged in
    let at = c.loop-lanes.at in
    let own = c.requires.leads in
    let left = c.loop-lanes.invariant.left own.0 own.1 in
    let none : lone_reader circuit at ≡ None = sym c.in-None.ensures in
    let same : own.0 ≡ at = one_stem_law circuit at own.0 at (left, own.1.1) (here, none) in
    let known : slice_index_or c.args.known.now at None ≡ Some own.2 =
    ap (λ s. slice_index_or c.args.known.now s None) (sym same) ∙ own.3 in
    let bad : None ≡ Some own.2 = c.in_default.ensures ∙ known in
    cc
