use Rattle.std.proofs.Common.{◌≡◌, ◌<◌, ◌∙◌, ap, arith, length, refl, subst, sym}
use Rattle.std.specs.Prelude.{◌≢◌, ℕ, IfNone, IfSome, slice_get}
use Rattle.std.proofs.lemmas.Grind.{get_or_default_zero}
use Rattle.bench_net.specs.Scan.{name_of, names, sources}
use Rattle.fault_model.specs.Reordered.{in_order, place}
use Rattle.flat_circuit.{specs.Arranged.IsArranged, proofs.FlowOrder.flow_within}
use Rattle.flat_circuit.proofs.ArrangedSignals.{at_order, count_there, signals_there, sources_there}
use Rattle.flat_circuit.proofs.flat.FlatCircuit.source_of.Goals as goal

pub index-requires : goal.index-requires
index-requires c =
    let own = c.self.inside in
    let circuit = own.circuit in
    let there = in_order circuit own.order.items in
    let arranged : IsArranged circuit there = (own.order.items, c.self.invariant.ordered, refl) in
    let well = c.signals-signals.ensures.circuit.well_formed in
    let lt = subst (λ x. c.args.signal < length (names x.arranged)) (sym c.self.view_is)
    c.requires in
    omega (
      arith,
      lt,
      c.self.invariant.ordered.signals.count,
      count_there circuit there well arranged,
      own.order.ok.0,
    )

pub source_of-requires : goal.source_of-requires
source_of-requires c =
    let own = c.self.inside in
    let circuit = own.circuit in
    let there = in_order circuit own.order.items in
    let arranged : IsArranged circuit there = (own.order.items, c.self.invariant.ordered, refl) in
    let well = c.signals-signals.ensures.circuit.well_formed in
    let lt = subst (λ x. c.args.signal < length (names x.arranged)) (sym c.self.view_is)
    c.requires in
    let inside : c.args.signal < length own.order.items = omega (
      arith,
      lt,
      c.self.invariant.ordered.signals.count,
      count_there circuit there well arranged,
    ) in
    let at : place circuit there c.index.result.now ≡ c.args.signal =
    ap (place circuit there) (c.index.ensures
    ∙ get_or_default_zero own.order.items c.args.signal c.index.result.now inside)
    ∙ at_order circuit there well arranged c.args.signal inside in
    let own_at : c.index.result.now < length (names circuit) = subst
    (λ x. x < length (names circuit)) (sym (c.index.ensures
    ∙ get_or_default_zero own.order.items c.args.signal c.index.result.now inside))
    (flow_within circuit own.order.items c.args.signal c.self.invariant.ordered inside) in
    own_at

pub returns-clause-place : goal.returns-clause-place
returns-clause-place c =
    let own = c.self.inside in
    let circuit = own.circuit in
    let there = in_order circuit own.order.items in
    let arranged : IsArranged circuit there = (own.order.items, c.self.invariant.ordered, refl) in
    let well = c.signals-signals.ensures.circuit.well_formed in
    let lt = subst (λ x. c.args.signal < length (names x.arranged)) (sym c.self.view_is)
    c.requires in
    let inside : c.args.signal < length own.order.items = omega (
      arith,
      lt,
      c.self.invariant.ordered.signals.count,
      count_there circuit there well arranged,
    ) in
    let at : place circuit there c.index.result.now ≡ c.args.signal =
    ap (place circuit there) (c.index.ensures
    ∙ get_or_default_zero own.order.items c.args.signal c.index.result.now inside)
    ∙ at_order circuit there well arranged c.args.signal inside in
    let own_at : c.index.result.now < length (names circuit) = subst
    (λ x. x < length (names circuit)) (sym (c.index.ensures
    ∙ get_or_default_zero own.order.items c.args.signal c.index.result.now inside))
    (flow_within circuit own.order.items c.args.signal c.self.invariant.ordered inside) in
    let named : name_of circuit c.index.result.now ≡ name_of there c.args.signal =
    sym ((signals_there circuit there well arranged).named c.index.result.now)
    ∙ ap (name_of there) at in
    let sources_are = sym (sources_there circuit there well arranged) in
    subst (λ x. IfSome c.source_of.result (λ i.
    slice_get (sources x.arranged) i ≡ name_of x.arranged c.args.signal)) c.self.view_is
    (subst (λ ss. IfSome c.source_of.result (λ i.
    slice_get ss i ≡ name_of there c.args.signal)) sources_are
    (subst (λ n. IfSome c.source_of.result (λ i. slice_get (sources circuit) i ≡ n)) named
    c.source_of.ensures.place))

pub returns-clause-none : goal.returns-clause-none
returns-clause-none c =
    let own = c.self.inside in
    let circuit = own.circuit in
    let there = in_order circuit own.order.items in
    let arranged : IsArranged circuit there = (own.order.items, c.self.invariant.ordered, refl) in
    let well = c.signals-signals.ensures.circuit.well_formed in
    let lt = subst (λ x. c.args.signal < length (names x.arranged)) (sym c.self.view_is)
    c.requires in
    let inside : c.args.signal < length own.order.items = omega (
      arith,
      lt,
      c.self.invariant.ordered.signals.count,
      count_there circuit there well arranged,
    ) in
    let at : place circuit there c.index.result.now ≡ c.args.signal =
    ap (place circuit there) (c.index.ensures
    ∙ get_or_default_zero own.order.items c.args.signal c.index.result.now inside)
    ∙ at_order circuit there well arranged c.args.signal inside in
    let own_at : c.index.result.now < length (names circuit) = subst
    (λ x. x < length (names circuit)) (sym (c.index.ensures
    ∙ get_or_default_zero own.order.items c.args.signal c.index.result.now inside))
    (flow_within circuit own.order.items c.args.signal c.self.invariant.ordered inside) in
    let named : name_of circuit c.index.result.now ≡ name_of there c.args.signal =
    sym ((signals_there circuit there well arranged).named c.index.result.now)
    ∙ ap (name_of there) at in
    let sources_are = sym (sources_there circuit there well arranged) in
    subst (λ x. IfNone c.source_of.result ((i : ℕ) →
    slice_get (sources x.arranged) i ≢ name_of x.arranged c.args.signal)) c.self.view_is
    (subst (λ ss. IfNone c.source_of.result ((i : ℕ) →
    slice_get ss i ≢ name_of there c.args.signal)) sources_are
    (subst (λ n. IfNone c.source_of.result ((i : ℕ) → slice_get (sources circuit) i ≢ n)) named
    c.source_of.ensures.none))
