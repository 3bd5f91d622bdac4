use Rattle.report.specs.EndToEnd.{IsListFault, IsListingFault, IsListingOf, IsListingOfCircuit}
use Rattle.report.proofs.ReportsOfTexts.{listing_fault, listing_of, refused_as, written_as}
use Rattle.report.proofs.text.faults_text_in.Goals as goal

pub returns-clause-written : goal.returns-clause-written
returns-clause-written g c =
    let circuit = c.in_ok-circuit.circuit in
    written_as (IsListingOfCircuit c.args.model circuit)
    (IsListingOf c.args.model c.args.bench.now) c.list_circuit.result _ _
    (listing_of c.args.model c.args.bench.now circuit c.in_ok-circuit.ensures.accepted)
    c.list_circuit.ensures.written

pub returns-clause-refused : goal.returns-clause-refused
returns-clause-refused g c =
    refused_as IsListFault (IsListingFault c.args.bench.now) c.list_circuit.result
    (listing_fault c.args.bench.now) c.list_circuit.ensures.refused
