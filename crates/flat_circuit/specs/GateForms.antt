-- The kinds of gates in one form: the AND or the XOR of the bits of the pins.
use Rattle.std.specs.Prelude.{◌≡◌, Bool, not, List, if◌then◌else◌}
use Rattle.std.specs.List.{list_all}
use Rattle.bench_net.specs.declared.Kind.{Kind}
use Rattle.fault_model.specs.Solution.{is_odd, value}
use Rattle.flat_circuit.specs.declared.gate_form.GateForm.{GateForm}

-- a bit, inverted if the first bit is true
abbrev pub inverted_if : Bool → Bool → Bool
inverted_if turn b = if turn then not b else b

-- the value of a form for the bits of the pins
abbrev pub form_value : GateForm → List Bool → Bool
form_value form bits =
    inverted_if form.inverts_output
    (if form.is_xor then is_odd bits else list_all (λ b. inverted_if form.inverts_inputs b) bits)

-- the form has the values of the kind
abbrev pub IsFormOf : Kind → GateForm → Type 0
IsFormOf kind form = (bits : List Bool) → form_value form bits ≡ value kind bits
