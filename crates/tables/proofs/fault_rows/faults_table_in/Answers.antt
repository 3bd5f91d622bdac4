use Rattle.report.proofs.Public.{refused_as, written_as}
use Rattle.report.specs.EndToEnd.{IsListFault, IsListingFault}
use Rattle.tables.specs.Tables.{IsClassTableOf, IsClassTableOfCircuit}
use Rattle.tables.proofs.TablesOfTexts.{classes_of_text, table_fault}
use Rattle.tables.proofs.fault_rows.faults_table_in.Goals as goal

pub returns-clause-written : goal.returns-clause-written
returns-clause-written g c =
    let circuit = c.in_ok-circuit.circuit in
    written_as (IsClassTableOfCircuit c.args.model circuit c.args.format)
    (IsClassTableOf c.args.model c.args.bench.now c.args.format) c.write_classes.result _ _
    (classes_of_text c.args.model c.args.bench.now circuit c.args.format
    c.in_ok-circuit.ensures.accepted) c.write_classes.ensures.written

pub returns-clause-refused : goal.returns-clause-refused
returns-clause-refused g c =
    refused_as IsListFault (IsListingFault c.args.bench.now) c.write_classes.result
    (table_fault c.args.bench.now) c.write_classes.ensures.refused
