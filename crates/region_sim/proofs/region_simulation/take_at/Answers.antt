use Rattle.std.{specs.Prelude.slice_index_or, proofs.lemmas.Option.slice_get-get_or}
use Rattle.flat_circuit.proofs.Public.{set_here}
use Rattle.region_sim.proofs.region_simulation.take_at.Goals as goal

pub returns-clause-taken : goal.returns-clause-taken
returns-clause-taken g c = (
  slice_index_or c.args.kept.now c.args.place c.index-kept-place.result,
  c.take.new.kept,
  slice_get-get_or c.args.kept.now c.args.place c.index-kept-place.result c.requires.place,
  set_here c.args.kept.now c.args.place c.take.new.kept c.requires.place,
  c.take.ensures,
)
