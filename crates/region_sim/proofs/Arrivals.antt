-- Classes that are followed to one stem.
use Rattle.std.proofs.Common.{◌<◌, ◌≤◌, ℕ, sym, ◌∙◌, ap, subst, List, [], ◌∷◌, ◌++◌, length, inl}
use Rattle.std.proofs.Common.{inr, ◌⊎◌, arith}
use Rattle.list_lemmas.proofs.Members.{Among, among, among_append, contained}
use Rattle.bench_net.specs.{Scan.names, Circuit.IsWellFormed}
use Rattle.flat_circuit.specs.{declared.block_span.BlockSpan.BlockSpan, BlockSpans.AreInSpan}
use Rattle.flat_circuit.specs.Words.{lane}
use Rattle.block_sim.specs.{declared.propagation.Followed.Followed, Parts.Parts}
use Rattle.block_sim.specs.declared.propagation_state.PropagationState.{PropagationState}
use Rattle.block_sim.{specs.PropagationState.{HasRoomFor, IsAtRest}, proofs.Public.lanes_first}
use Rattle.region_sim.specs.Arrivals.{AreFollowed, HasArrived}

-- a class reached a stem only in lanes of tests
pub arrived_within : (job : Parts) (span : BlockSpan) (stem class word : ℕ)
    → HasArrived job span stem class word → AreInSpan job.tests.tests span word
arrived_within job span stem class word a k lt own =
    ((a.4 k lt).0 (lanes_first a.1 a.2 k (ap (λ w. lane w k) (sym a.6) ∙ own))).0

-- one class more is followed
pub followed_more : (job : Parts) (span : BlockSpan) (stem : ℕ) (followed : List Followed)
    (one : Followed)
    → AreFollowed job span stem followed → one.class < length job.classes.representative
    → HasArrived job span stem one.class one.lanes
    → AreFollowed job span stem (followed ++ one ∷ [])
followed_more job span stem followed one before within at x there =
    go (among_append followed (one ∷ []) x (among (followed ++ one ∷ []) x there))
  where
    go : Among x followed ⊎ Among x (one ∷ [])
        → (x.class < length job.classes.representative) × HasArrived job span stem x.class x.lanes
    go (inl h) = before x (contained followed x h)
    go (inr (inl same)) = subst (λ (y : Followed). (y.class < length job.classes.representative)
        × HasArrived job span stem y.class y.lanes) same (within, at)
    go (inr (inr bad)) = absurd bad

-- a state at rest has room for a circuit that it has words for
pub room_at_rest : (job : Parts) (changes : PropagationState) → IsWellFormed job.circuit
    → IsAtRest changes
    → length (names job.circuit) ≤ length changes.overlay → HasRoomFor job.circuit changes
room_at_rest job changes well rest room = record {
  overlay = room;
  gates = (let same = rest.gates in omega (arith, same, room));
}
