use Rattle.std.proofs.Common.{◌≡◌, ◌<◌, ℕ, get_or, vec_items, vec_len}
use Rattle.flat_circuit.proofs.fault_free.fn.share_groups.scope.Given as goal

-- each handle promises words of these tests
abbrev pub invariant-loop-spare : goal.invariant-loop-spare
invariant-loop-spare g l = (k : ℕ) (d : _) → k < vec_len l.handles
    → ((get_or (vec_items l.handles) k d).promise.circuit.value ≡ l.circuit.now)
    × ((get_or (vec_items l.handles) k d).promise.tests.value ≡ l.tests.now)
