-- The readers of the signals of a circuit whose statements stand in another order.
use Rattle.std.specs.Prelude.{◌≡◌, ◌↔◌, ℕ, List, option_map}
use Rattle.bench_net.specs.Statement.{Statement}
use Rattle.fault_model.specs.Reordered.{place}
use Rattle.flat_circuit.specs.Readers.{Reads, IsObserved, IsLive}
use Rattle.flat_circuit.specs.Regions.{lone_reader}

-- the same gates read a signal, the same observers observe it, and it is live in both circuits or
-- in none
pub record HasSameReaders (c d : List Statement) : Type 0 where
  pub reads : (g s : ℕ) → Reads c g s → Reads d (place c d g) (place c d s)
  pub reads_back : (g s : ℕ) → Reads d g (place c d s) → (h : ℕ) × (g ≡ place c d h) × Reads c h s
  pub observed : (s : ℕ) → IsObserved c s ↔ IsObserved d (place c d s)
  pub live : (s : ℕ) → IsLive c s ↔ IsLive d (place c d s)
  pub lone : (s : ℕ) → lone_reader d (place c d s) ≡ option_map (place c d) (lone_reader c s)
