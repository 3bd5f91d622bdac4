use Rattle.std.proofs.Common.{◌≡◌, ◌∙◌, ap, length, map, sym}
use Rattle.bench_net.specs.{declared.Sink.Sink, Statement.Name, Scan.{observers, signal}}
use Rattle.fault_model.specs.Reordered.{place}
use Rattle.flat_circuit.proofs.Public.{sources_there, well_there}
use Rattle.block_sim.proofs.ArrangedWords.{observed_there, responses_there}
use Rattle.block_sim.proofs.ResponseRows.{observed_within}
use Rattle.block_sim.proofs.response.response_rows.Goals as goal

pub add_groups-requires-clause-tests : goal.add_groups-requires-clause-tests
add_groups-requires-clause-tests c =
    let signals = c.signals-signals.ensures in
    c.requires ∙ ap length (sym (sources_there c.args.circuit.now.statements
    c.args.circuit.now.arranged signals.given.well_formed signals.arranged))

pub add_groups-requires-clause-observed : goal.add_groups-requires-clause-observed
add_groups-requires-clause-observed c =
    let circuit = c.args.circuit.now.statements in
    let there = c.args.circuit.now.arranged in
    let well = c.signals-signals.ensures.given.well_formed in
    let arranged = c.signals-signals.ensures.arranged in
    let shown : c.in_ok-shown.shown.items
    ≡ map (λ (o : Sink × Name). signal circuit o.1) (observers circuit) =
    c.in_ok-shown.ensures.signals
    ∙ ap (λ x. map (λ (o : Sink × Name). signal x o.1) (observers x)) c.circuit.ensures in
    let observed : c.deref-2.result.now
    ≡ map (λ (o : Sink × Name). signal there o.1) (observers there) =
    c.deref-2.ensures.value ∙ (c.in_ok-observed.ensures
    ∙ (ap (map (place circuit there)) (c.deref.ensures.value ∙ shown)
    ∙ observed_there circuit there well arranged)) in
    observed

pub add_groups-requires-clause-within : goal.add_groups-requires-clause-within
add_groups-requires-clause-within c =
    let circuit = c.args.circuit.now.statements in
    let there = c.args.circuit.now.arranged in
    let well = c.signals-signals.ensures.given.well_formed in
    let arranged = c.signals-signals.ensures.arranged in
    let shown : c.in_ok-shown.shown.items
    ≡ map (λ (o : Sink × Name). signal circuit o.1) (observers circuit) =
    c.in_ok-shown.ensures.signals
    ∙ ap (λ x. map (λ (o : Sink × Name). signal x o.1) (observers x)) c.circuit.ensures in
    let observed : c.deref-2.result.now
    ≡ map (λ (o : Sink × Name). signal there o.1) (observers there) =
    c.deref-2.ensures.value ∙ (c.in_ok-observed.ensures
    ∙ (ap (map (place circuit there)) (c.deref.ensures.value ∙ shown)
    ∙ observed_there circuit there well arranged)) in
    observed_within there c.deref-2.result.now (well_there circuit there well arranged) observed

pub returns-clause-responses : goal.returns-clause-responses
returns-clause-responses c =
    let signals = c.signals-signals.ensures in
    responses_there c.args.circuit.now.statements c.args.circuit.now.arranged
    signals.given.well_formed signals.arranged c.args.tests.now.tests c.add_groups.new.rows
    c.in_ok-add_groups.ensures
