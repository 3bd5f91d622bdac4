use Rattle.flat_circuit.proofs.Public as stems
use Rattle.block_sim.proofs.laws.class_stems.Goals as goal

pub returns-clause-one : goal.returns-clause-one
returns-clause-one c = stems.one_class_stem

pub returns-clause-some : goal.returns-clause-some
returns-clause-some c = stems.class_has_stem
