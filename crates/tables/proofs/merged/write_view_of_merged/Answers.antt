use Rattle.tables.proofs.merged.write_view_of_merged.Goals as goal

pub returns-in-Faults-clause-written : goal.returns-in-Faults-clause-written
returns-in-Faults-clause-written g c = rw (c.in-Faults.is) c.write_merged_faults.ensures.written

pub returns-in_ok-detected-in-Blocks-clause-written
    : goal.returns-in_ok-detected-in-Blocks-clause-written
returns-in_ok-detected-in-Blocks-clause-written g c = rw c.in-Blocks.is
    (rw (c.deref.ensures.value, c.in_ok-detected-in-Blocks.ensures) at
    c.write_blocks.ensures.written)
