use Rattle.bench_net.specs.Tables.{ArePlaces}
use Rattle.bench_net.proofs.tables.source_places.Given as goal

abbrev pub invariant-loop-place : goal.invariant-loop-place
invariant-loop-place l = ArePlaces l.sources l.signals l.place l.places.items
