use Rattle.report.proofs.report.write_fault.Goals as goal

pub returns : goal.returns
returns g c = λ f at.
    let wrote = rw (c.circuit.ensures.part, c.faults.ensures.part) at c.in_ok-put_fault.ensures in
    wrote f at
