use Rattle.std.proofs.Common.{inl, inr}
use Rattle.flat_circuit.proofs.GateForms.{none_turned, some_turned}
use Rattle.flat_circuit.proofs.gate_form.GateForm.of.Goals as goal

pub returns-in-Or : goal.returns-in-Or
returns-in-Or c = λ bits. elim c.in-Or.is [
  | inl e ↦ rw e (some_turned bits)
  | inr e ↦ rw e (some_turned bits)
]

pub returns-in-Nor : goal.returns-in-Nor
returns-in-Nor c = λ bits. elim c.in-Nor.is [
  | inl e ↦ rw e (none_turned bits)
  | inr e ↦ rw e (none_turned bits)
]
