use Rattle.std.{specs.Prelude.slice_index_or, proofs.lemmas.Option.slice_get-get_or}
use Rattle.flat_circuit.proofs.Public.{set_here}
use Rattle.region_runs.proofs.window_goal.join_at.Goals as goal

pub returns-clause-joined : goal.returns-clause-joined
returns-clause-joined g c = (
  slice_index_or c.args.kept.now c.args.place c.index-kept-place.result,
  c.join.new.kept,
  slice_get-get_or c.args.kept.now c.args.place c.index-kept-place.result c.requires.place,
  set_here c.args.kept.now c.args.place c.join.new.kept c.requires.place,
  c.join.ensures,
)
