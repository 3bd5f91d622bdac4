use Rattle.std.proofs.Common.{◌≡◌, ◌<◌, ◌+◌, ◌∙◌, ap, arith, length, subst, sym}
use Rattle.std.{specs.Prelude.slice_index_or, proofs.lemmas.Grind.get_or_default_zero}
use Rattle.std.proofs.lemmas.List.{length_push}
use Rattle.bench_net.specs.Scan.{names}
use Rattle.flat_circuit.specs.Regions.{HaveStems, IsStemOf}
use Rattle.flat_circuit.proofs.Representatives.{representative_within}
use Rattle.flat_circuit.proofs.Stems.{class_stem, line_named, stems_push, way_within}
use Rattle.flat_circuit.proofs.region_classes.class_stems.Goals as goal

pub line_of-line-requires : goal.line_of-line-requires
line_of-line-requires c =
    representative_within c.args.faults.now.model c.args.circuit.now c.args.faults.now
    c.args.classes.now c.loop-class.class c.representative.result
    c.requires.classes c.requires.list c.representative.ensures

pub way_from-requires-clause-named : goal.way_from-requires-clause-named
way_from-requires-clause-named c =
    line_named c.args.faults.now.model c.args.circuit.now c.requires.circuit.well_formed
    c.args.faults.now c.args.classes.now c.loop-class.class c.representative.result
    c.line_of-line.result
    c.requires.classes c.requires.list c.representative.ensures c.line_of-line.ensures

pub index-stem-requires : goal.index-stem-requires
index-stem-requires c =
    let lt = way_within c.args.faults.now.model c.args.circuit.now c.requires.circuit.well_formed
    c.args.faults.now c.args.classes.now c.loop-class.class c.representative.result
    c.line_of-line.result
    c.requires.classes c.requires.list c.representative.ensures c.line_of-line.ensures
    c.way_from.result c.way_from.ensures in
    omega (arith, lt, c.in_ok-stems.ensures.count, c.in_ok-stems.stems.ok.0)

pub loop-class-preserved : goal.loop-class-preserved
loop-class-preserved c =
    let m = c.args.faults.now.model in
    let circuit = c.args.circuit.now in
    let items = c.in_ok-stems.stems.items in
    let before = c.loop-class.class_stems.items in
    let way = c.way_from.result in
    let stem = c.index-stem.result.now in
    let lt : way < length (names circuit) =
    way_within m circuit c.requires.circuit.well_formed c.args.faults.now c.args.classes.now
    c.loop-class.class c.representative.result c.line_of-line.result
    c.requires.classes c.requires.list c.representative.ensures c.line_of-line.ensures way
    c.way_from.ensures in
    let inside : way < length items = omega (arith, lt, c.in_ok-stems.ensures.count) in
    let is : stem ≡ slice_index_or items way 0 = c.index-stem.ensures
    ∙ get_or_default_zero items way stem inside in
    let has = c.in_ok-stems.ensures.stems way lt in
    let within : stem < length (names circuit) = subst (λ x. x < length (names circuit))
    (sym is) has.0 in
    let stem_is : IsStemOf circuit stem way = subst (λ x. IsStemOf circuit x way) (sym is) has.1 in
    let now = class_stem m circuit c.requires.circuit.well_formed c.args.faults.now
    c.args.classes.now c.loop-class.class c.representative.result c.line_of-line.result
    c.requires.classes c.requires.list c.representative.ensures c.line_of-line.ensures way stem
    c.way_from.ensures stem_is in
    record {
      count = ap length c.in_ok-push.ensures.items
          ∙ (length_push before stem ∙ ap (λ n. n + 1) c.loop-class.invariant.count);
      known = subst (HaveStems m circuit) (sym c.in_ok-push.ensures.items)
          (stems_push m circuit before c.loop-class.class stem c.loop-class.invariant.count
          c.loop-class.invariant.known within now);
    }
