use Rattle.block_sim.proofs.{ReorderedGates.{same_active, same_flips}, ReorderedStems.same_stems}
use Rattle.flat_circuit.proofs.Public.{same_readers}
use Rattle.block_sim.proofs.laws.reordering.Goals as goal

pub returns-clause-readers : goal.returns-clause-readers
returns-clause-readers c = same_readers

pub returns-clause-stems : goal.returns-clause-stems
returns-clause-stems c = same_stems

pub returns-clause-active : goal.returns-clause-active
returns-clause-active c = same_active

pub returns-clause-flips : goal.returns-clause-flips
returns-clause-flips c = same_flips
