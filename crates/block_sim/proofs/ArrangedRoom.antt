-- The room that a state has for a circuit with its statements in the order of their places.
use Rattle.std.proofs.Common.{List, arith}
use Rattle.bench_net.specs.{Statement.Statement, Circuit.IsWellFormed}
use Rattle.block_sim.specs.declared.propagation_state.PropagationState.{PropagationState}
use Rattle.block_sim.specs.PropagationState.{HasRoomFor}
use Rattle.flat_circuit.{specs.Arranged.IsArranged, proofs.Public.count_there}

-- a state with room for the circuit has room for the second circuit
pub room_there : (c d : List Statement) → IsWellFormed c → IsArranged c d
    → (changes : PropagationState) → HasRoomFor c changes → HasRoomFor d changes
room_there c d well arranged changes room = record {
  overlay = omega (arith, room.overlay, count_there c d well arranged);
  gates = omega (arith, room.gates, count_there c d well arranged);
}
