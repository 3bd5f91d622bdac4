use Rattle.std.proofs.Common.{◌∙◌, ap, sym}
use Rattle.bench_net.{specs.Scan.names, proofs.Public.signal-name_of}
use Rattle.list_lemmas.proofs.{Members.contained, Places.{at_place, place_within}}
use Rattle.fault_model.specs.Detection.{name_on}
use Rattle.undetected.proofs.ObservedSignals.{data_signal, output_signal}
use Rattle.undetected.proofs.PinSignals.{signal_within}
use Rattle.undetected.proofs.activations.signal_on.Goals as goal

pub returns-in-Stem-clause-carries : goal.returns-in-Stem-clause-carries
returns-in-Stem-clause-carries c = λ n at.
    let d = c.args.circuit.now in
    let named = ap (name_on d) (sym c.in-Stem.is) ∙ at in
    let here = contained (names d) n (at_place (names d) c.in-Stem.signal n named) in
    sym (signal-name_of d c.in-Stem.signal n c.signals-signals.ensures.circuit.well_formed.once
    named here)

pub returns-in-Stem-clause-within : goal.returns-in-Stem-clause-within
returns-in-Stem-clause-within c =
    let d = c.args.circuit.now in
    place_within (names d) c.in-Stem.signal c.requires.0
    (ap (name_on d) (sym c.in-Stem.is) ∙ c.requires.1)

pub returns-in-Data-clause-carries : goal.returns-in-Data-clause-carries
returns-in-Data-clause-carries c = λ n at.
    let d = c.args.circuit.now in
    data_signal d c.scan_cells.result.now c.in-Data.cell n (record { q = 0; d = 0 })
    c.scan_cells.ensures (ap (name_on d) (sym c.in-Data.is) ∙ at)

pub returns-in-Data-clause-within : goal.returns-in-Data-clause-within
returns-in-Data-clause-within c =
    let d = c.args.circuit.now in
    let same = data_signal d c.scan_cells.result.now c.in-Data.cell c.requires.0
    (record { q = 0; d = 0 }) c.scan_cells.ensures
    (ap (name_on d) (sym c.in-Data.is) ∙ c.requires.1) in
    rw (same) (signal_within d c.requires.0 c.requires.2)

pub returns-in-Out-clause-carries : goal.returns-in-Out-clause-carries
returns-in-Out-clause-carries c = λ n at.
    let d = c.args.circuit.now in
    output_signal d c.outputs.result.now c.in-Out.output 0 n c.outputs.ensures
    (ap (name_on d) (sym c.in-Out.is) ∙ at)

pub returns-in-Out-clause-within : goal.returns-in-Out-clause-within
returns-in-Out-clause-within c =
    let d = c.args.circuit.now in
    let same = output_signal d c.outputs.result.now c.in-Out.output 0 c.requires.0
    c.outputs.ensures (ap (name_on d) (sym c.in-Out.is) ∙ c.requires.1) in
    rw (same) (signal_within d c.requires.0 c.requires.2)
