use Rattle.std.proofs.Common.{◌≡◌, length}
use Rattle.flat_circuit.proofs.PlaceTables.{HasPlaces}
use Rattle.flat_circuit.proofs.signal_places.places_of.Given as goal

abbrev pub invariant-loop-place : goal.invariant-loop-place
invariant-loop-place l = record {
  room : length l.places.items ≡ length l.order;
  known : HasPlaces l.order l.places.items l.place;
}
