use Rattle.tables.proofs.fault_rows.put_fault.Goals as goal

pub returns : goal.returns
returns c = rw (c.of.ensures, c.of-2.ensures, c.widened.ensures) at c.add_cells.ensures
