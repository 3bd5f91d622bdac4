-- The invariants of an event-driven simulation, and its result. Each lane has a fault of its own,
-- so a signal can be complemented in lanes in which it has either bit.
use Rattle.std.specs.Prelude.{◌≡◌, ◌≢◌, ◌⊎◌, ℕ, ◌<◌, ◌≤◌, Bool, true, false, not}
use Rattle.std.specs.Prelude.{◌||◌, ◌==◌, nat_lt, List, Contains, Some, None}
use Rattle.std.specs.Prelude.{count_by, slice_index_or, slice_set}
use Rattle.bench_net.specs.declared.Sink.{Sink}
use Rattle.bench_net.specs.Statement.{Name, Statement}
use Rattle.bench_net.specs.Scan.{names, signal, observers}
use Rattle.fault_model.specs.Fault.{Fault, branch}
use Rattle.fault_model.specs.Solution.{Test, Solves, shows}
use Rattle.block_sim.specs.declared.propagation.Extent.{Extent}
use Rattle.block_sim.specs.declared.propagation.Extent.TheVariants.{WholeBlock, FirstHits}
use Rattle.block_sim.specs.declared.propagation.Followed.{Followed}
use Rattle.flat_circuit.specs.Words.{lane, lane_bits, test_of, AreWords}
use Rattle.flat_circuit.specs.Readers.{Reads, IsLive, IsObserved}
use Rattle.block_sim.specs.Events.{bits_of, HasEquation, IsElsewhere}

-- the equation of each signal that counts and does not wait holds in each lane of the mask
abbrev pub IsBalanced : List Statement → (ℕ → Type 0) → List Test → ℕ → (ℕ → Fault) → List ℕ → ℕ
    → List ℕ → List ℕ → Type 0
IsBalanced c counts tests group f good mask delta at = (s k : ℕ) → counts s
    → slice_index_or at s 0 ≡ 0 → k < 128 → lane mask k ≡ true
    → HasEquation c (test_of tests group k) (Some (f k)) (bits_of c good delta k) s

-- The signals that count in a simulation: live signals, and signals up to the level of the start.
-- The others keep their fault-free words.
abbrev pub Counts : List Statement → (ℕ → ℕ) → ℕ → ℕ → Type 0
Counts c lv start s = IsLive c s ⊎ (lv s ≤ lv start)

-- the gate waits, or lies above the level
abbrev pub is_pending : (ℕ → ℕ) → List ℕ → ℕ → ℕ → Bool
is_pending lv at level g = nat_lt level (lv g) || not (slice_index_or at g 0 == 0)

abbrev pub pending_gates : (ℕ → ℕ) → List ℕ → ℕ → List ℕ → ℕ
pending_gates lv at level gates = count_by (is_pending lv at level) gates

-- the list has each gate that reads a signal that differs
abbrev pub HasTouched : List Statement → List ℕ → List ℕ → Type 0
HasTouched c delta gates = (g s : ℕ) → Reads c g s → slice_index_or delta s 0 ≢ 0 → Contains gates g

-- a signal has in a lane the bit that every solution with the lane's fault gives it
abbrev pub IsRightIn : List Statement → List Test → ℕ → (ℕ → Fault) → List ℕ → List ℕ → ℕ → ℕ
    → Type 0
IsRightIn c tests group f good delta s k = (n : Name) (v : Name → Bool) → Contains (names c) n
    → signal c n ≡ s → Solves c (test_of tests group k) (Some (f k)) v
    → bits_of c good delta k n ≡ v n

-- Signals of lower levels have their final words. A live gate of this level or above waits if a
-- signal that it reads differs. The mask has the requested lanes that are still followed.
pub record IsPropagating (c : List Statement) (tests : List Test) (group : ℕ) (f : ℕ → Fault)
    (good : List ℕ) (lanes : ℕ) (lv : ℕ → ℕ) (start mask : ℕ) (delta at : List ℕ) (level : ℕ) :
    Type 0 where
  pub balanced : IsBalanced c (Counts c lv start) tests group f good mask delta at
  pub narrow : (k : ℕ) → k < 128 → lane mask k ≡ true → lane lanes k ≡ true
  pub not_below : (g : ℕ) → slice_index_or at g 0 ≢ 0 → level ≤ lv g
  pub live : (g : ℕ) → slice_index_or at g 0 ≢ 0 → IsLive c g
  pub touched : (g : ℕ) → slice_index_or at g 0 ≢ 0
      → (s : ℕ) × Reads c g s × (slice_index_or delta s 0 ≢ 0)
  pub waits_clear : (g : ℕ) → slice_index_or at g 0 ≢ 0 → slice_index_or delta g 0 ≡ 0
  pub above_clear : (g : ℕ) → level < lv g → slice_index_or delta g 0 ≡ 0
  pub after_start : (s : ℕ) → slice_index_or delta s 0 ≢ 0 → lv start ≤ lv s
  pub inside : (s k : ℕ) → k < 128 → lane (slice_index_or delta s 0) k ≡ true → lane lanes k ≡ true
  pub some : (s : ℕ) → slice_index_or delta s 0 ≢ 0
      → (k : ℕ) × (k < 128) × (lane (slice_index_or delta s 0) k ≡ true)
  pub right : (s k : ℕ) → k < 128 → lane (slice_index_or delta s 0) k ≡ true
      → IsRightIn c tests group f good delta s k

-- a lane is seen only if an observed signal differs in it, and each such lane of the mask is seen
pub record AreSeen (c : List Statement) (delta : List ℕ) (mask seen : ℕ) : Type 0 where
  pub found : (k : ℕ) → k < 128 → lane seen k ≡ true
      → (s : ℕ) × IsObserved c s × (lane (slice_index_or delta s 0) k ≡ true)
  pub shown : (s k : ℕ) → k < 128 → lane mask k ≡ true → IsObserved c s
      → lane (slice_index_or delta s 0) k ≡ true → lane seen k ≡ true

-- each class that is followed in a lane has a lane of its own, this one or a lower one, that was
-- seen
abbrev pub HaveHits : List Followed → ℕ → ℕ → Type 0
HaveHits followed seen k = (one : Followed) → Contains followed one → lane one.lanes k ≡ true
    → (j : ℕ) × (j ≤ k) × (lane one.lanes j ≡ true) × (lane seen j ≡ true)

-- If only first hits are requested, a lane is settled if each class that is followed in it has a
-- hit, in this lane or a lower one. If the whole group is requested, no lane is settled.
abbrev pub IsSettled : Extent → ℕ → ℕ → Type 0
IsSettled WholeBlock seen k = ⊥
IsSettled (FirstHits followed) seen k = HaveHits followed.now seen k

-- the requested lanes that are no longer followed are settled
abbrev pub LeavesSettled : Extent → ℕ → ℕ → ℕ → Type 0
LeavesSettled extent lanes kept seen = (k : ℕ) → k < 128 → lane lanes k ≡ true
    → lane kept k ≡ false → IsSettled extent seen k

-- The first change by faults on a stem or a pin: in each requested lane the start has its bit under
-- the lane's fault. No other equation contains the fault.
pub record IsFirstChange (c : List Statement) (tests : List Test) (group : ℕ) (f : ℕ → Fault)
    (good : List ℕ) (lanes : ℕ) (delta : List ℕ) (start diff : ℕ) : Type 0 where
  pub words : AreWords c tests group None good
  pub elsewhere : (t k : ℕ) → t ≢ start → IsElsewhere (f k) t
  pub unobserved : (o : Sink × Name) (k : ℕ) → Contains (observers c) o → (f k).line ≢ branch o.0
  pub first : (k : ℕ) → k < 128 → lane lanes k ≡ true
      → HasEquation c (test_of tests group k) (Some (f k))
      (bits_of c good (slice_set delta start diff) k) start

-- some observer shows another bit than in the fault-free circuit
abbrev pub IsApart : List Statement → Fault → List ℕ → ℕ → (Name → Bool) → Type 0
IsApart c f good k v = (o : Sink × Name) × Contains (observers c) o
    × (shows None (lane_bits c good k) o ≢ shows (Some f) v o)

-- some solution with the fault is not apart
abbrev pub IsAlike : List Statement → Test → Fault → List ℕ → ℕ → Type 0
IsAlike c t f good k = (v : Name → Bool) × Solves c t (Some f) v × (IsApart c f good k v → ⊥)

-- In each lane that is seen every solution with the lane's fault is apart. In each requested lane
-- that is neither seen nor settled some solution is not apart.
pub record AreShown (c : List Statement) (tests : List Test) (group : ℕ) (f : ℕ → Fault)
    (good : List ℕ) (lanes : ℕ) (settled : ℕ → Type 0) (seen : ℕ) : Type 0 where
  pub found : (k : ℕ) → k < 128 → lane seen k ≡ true
      → (lane lanes k ≡ true)
      × ((v : Name → Bool) → Solves c (test_of tests group k) (Some (f k)) v
      → IsApart c (f k) good k v)
  pub clear : (k : ℕ) → k < 128 → lane lanes k ≡ true → lane seen k ≡ false
      → (settled k → ⊥) → IsAlike c (test_of tests group k) (f k) good k
