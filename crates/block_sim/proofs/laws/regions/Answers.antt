use Rattle.block_sim.proofs.RegionLanes as lanes
use Rattle.block_sim.proofs.Regions as law
use Rattle.flat_circuit.proofs.Public as low
use Rattle.block_sim.proofs.laws.regions.Goals as goal

pub returns-clause-step : goal.returns-clause-step
returns-clause-step c = law.step_law

pub returns-clause-region : goal.returns-clause-region
returns-clause-region c = law.region_law

pub returns-clause-fault : goal.returns-clause-fault
returns-clause-fault c = law.fault_law

pub returns-clause-stem : goal.returns-clause-stem
returns-clause-stem c = law.stem_law

pub returns-clause-observer : goal.returns-clause-observer
returns-clause-observer c = law.observer_law

pub returns-clause-lanes : goal.returns-clause-lanes
returns-clause-lanes c = lanes.lanes_law

pub returns-clause-pin : goal.returns-clause-pin
returns-clause-pin c = low.pin_law

pub returns-clause-one_stem : goal.returns-clause-one_stem
returns-clause-one_stem c = low.one_stem_law

pub returns-clause-some_stem : goal.returns-clause-some_stem
returns-clause-some_stem c = low.some_stem_law

pub returns-clause-lead : goal.returns-clause-lead
returns-clause-lead c = low.lead_law
