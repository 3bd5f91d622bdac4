use Rattle.std.{proofs.Common.{◌≡◌, ◌∙◌, ap, sym}, specs.Prelude.Some}
use Rattle.bench_net.{specs.Scan.{names, signal}, proofs.Public.signal-name_of}
use Rattle.list_lemmas.proofs.{Members.contained, Places.at_place}
use Rattle.fault_model.specs.declared.Line.TheVariants as line
use Rattle.fault_model.specs.Detection.{name_on}
use Rattle.flat_circuit.proofs.{CarriedSignals.gate_within, ArrangedSignals.output_same}
use Rattle.flat_circuit.proofs.ArrangedSignals.{data_named, data_same, named_there, output_named}
use Rattle.flat_circuit.proofs.line_signals.carried.Goals as goal

pub pin_signal-requires-clause-gate : goal.pin_signal-requires-clause-gate
pin_signal-requires-clause-gate c =
    let at = ap (name_on c.args.circuit.now.arranged) (sym c.in-Pin.is) ∙ c.requires.named.1 in
    gate_within c.args.circuit.now.arranged c.in-Pin.gate c.in-Pin.pin c.requires.named.0 at

pub pin_signal-requires-clause-named : goal.pin_signal-requires-clause-named
pin_signal-requires-clause-named c = (
  c.requires.named.0,
  ap (name_on c.args.circuit.now.arranged) (sym c.in-Pin.is) ∙ c.requires.named.1,
)

pub returns-in-Stem : goal.returns-in-Stem
returns-in-Stem c = λ n at.
    let d = c.args.circuit.now.arranged in
    let named = ap (name_on d) (sym c.in-Stem.is) ∙ at in
    let here = contained (names d) n (at_place (names d) c.in-Stem.signal n named) in
    sym (signal-name_of d c.in-Stem.signal n c.requires.circuit.well_formed.once named here)

pub data_signal-requires : goal.data_signal-requires
data_signal-requires c =
    let signals = c.signals-signals.ensures in
    let at = ap (name_on c.args.circuit.now.arranged) (sym c.in-Data.is) ∙ c.requires.named.1 in
    record {
      named = (
        c.requires.named.0,
        ap (λ x. name_on x (line.Data c.in-Data.cell)) c.circuit.ensures
            ∙ (sym (data_same c.args.circuit.now.statements c.args.circuit.now.arranged
            signals.given.well_formed signals.arranged c.in-Data.cell) ∙ at),
      );
    }

pub place_of-requires : goal.place_of-requires
place_of-requires c =
    let circuit = c.args.circuit.now.statements in
    let signals = c.signals-signals.ensures in
    let at = ap (name_on c.args.circuit.now.arranged) (sym c.in-Data.is) ∙ c.requires.named.1 in
    let own : name_on circuit (line.Data c.in-Data.cell) ≡ Some c.requires.named.0 =
    sym (data_same circuit c.args.circuit.now.arranged signals.given.well_formed signals.arranged
    c.in-Data.cell) ∙ at in
    let is : c.data_signal.result ≡ signal circuit c.requires.named.0 =
    c.data_signal.ensures c.requires.named.0
    (ap (λ x. name_on x (line.Data c.in-Data.cell)) c.circuit.ensures ∙ own)
    ∙ ap (λ x. signal x c.requires.named.0) c.circuit.ensures in
    (named_there circuit c.args.circuit.now.arranged signals.given.well_formed signals.arranged
    c.requires.named.0 c.data_signal.result
    (data_named circuit c.args.circuit.now.arranged signals.given.well_formed signals.arranged
    c.in-Data.cell c.requires.named.0 own) is).0

pub returns-in-Data : goal.returns-in-Data
returns-in-Data c = λ n h.
    let circuit = c.args.circuit.now.statements in
    let signals = c.signals-signals.ensures in
    let at = ap (name_on c.args.circuit.now.arranged) (sym c.in-Data.is) ∙ h in
    let own : name_on circuit (line.Data c.in-Data.cell) ≡ Some n =
    sym (data_same circuit c.args.circuit.now.arranged signals.given.well_formed signals.arranged
    c.in-Data.cell) ∙ at in
    let is : c.data_signal.result ≡ signal circuit n = c.data_signal.ensures n
    (ap (λ x. name_on x (line.Data c.in-Data.cell)) c.circuit.ensures ∙ own)
    ∙ ap (λ x. signal x n) c.circuit.ensures in
    c.place_of.ensures.place
    ∙ (named_there circuit c.args.circuit.now.arranged signals.given.well_formed signals.arranged n
    c.data_signal.result
    (data_named circuit c.args.circuit.now.arranged signals.given.well_formed signals.arranged
    c.in-Data.cell n own) is).1

pub output_signal-requires : goal.output_signal-requires
output_signal-requires c =
    let signals = c.signals-signals.ensures in
    let at = ap (name_on c.args.circuit.now.arranged) (sym c.in-Out.is) ∙ c.requires.named.1 in
    record {
      named = (
        c.requires.named.0,
        ap (λ x. name_on x (line.Out c.in-Out.output)) c.circuit-in-Out.ensures
            ∙ (sym (output_same c.args.circuit.now.statements c.args.circuit.now.arranged
            signals.given.well_formed signals.arranged c.in-Out.output) ∙ at),
      );
    }

pub place_of-requires-in-Out : goal.place_of-requires-in-Out
place_of-requires-in-Out c =
    let circuit = c.args.circuit.now.statements in
    let signals = c.signals-signals.ensures in
    let at = ap (name_on c.args.circuit.now.arranged) (sym c.in-Out.is) ∙ c.requires.named.1 in
    let own : name_on circuit (line.Out c.in-Out.output) ≡ Some c.requires.named.0 =
    sym (output_same circuit c.args.circuit.now.arranged signals.given.well_formed signals.arranged
    c.in-Out.output) ∙ at in
    let is : c.output_signal.result ≡ signal circuit c.requires.named.0 =
    c.output_signal.ensures c.requires.named.0
    (ap (λ x. name_on x (line.Out c.in-Out.output)) c.circuit-in-Out.ensures ∙ own)
    ∙ ap (λ x. signal x c.requires.named.0) c.circuit-in-Out.ensures in
    (named_there circuit c.args.circuit.now.arranged signals.given.well_formed signals.arranged
    c.requires.named.0 c.output_signal.result
    (output_named circuit c.args.circuit.now.arranged signals.given.well_formed signals.arranged
    c.in-Out.output c.requires.named.0 own) is).0

pub returns-in-Out : goal.returns-in-Out
returns-in-Out c = λ n h.
    let circuit = c.args.circuit.now.statements in
    let signals = c.signals-signals.ensures in
    let at = ap (name_on c.args.circuit.now.arranged) (sym c.in-Out.is) ∙ h in
    let own : name_on circuit (line.Out c.in-Out.output) ≡ Some n =
    sym (output_same circuit c.args.circuit.now.arranged signals.given.well_formed signals.arranged
    c.in-Out.output) ∙ at in
    let is : c.output_signal.result ≡ signal circuit n = c.output_signal.ensures n
    (ap (λ x. name_on x (line.Out c.in-Out.output)) c.circuit-in-Out.ensures ∙ own)
    ∙ ap (λ x. signal x n) c.circuit-in-Out.ensures in
    c.place_of-in-Out.ensures.place
    ∙ (named_there circuit c.args.circuit.now.arranged signals.given.well_formed signals.arranged n
    c.output_signal.result
    (output_named circuit c.args.circuit.now.arranged signals.given.well_formed signals.arranged
    c.in-Out.output n own) is).1
