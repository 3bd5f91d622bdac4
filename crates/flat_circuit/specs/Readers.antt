-- The gates that read a signal, the observers of a signal, and the signals that reach an observer.
use Rattle.std.specs.Prelude.{◌≡◌, ℕ, ◌<◌, List, Contains}
use Rattle.bench_net.specs.declared.Kind.{Kind}
use Rattle.bench_net.specs.declared.Sink.{Sink}
use Rattle.bench_net.specs.Statement.{Name, Statement, Gate}
use Rattle.bench_net.specs.Scan.{signal, observers}

-- the gate reads the signal
pub record Reads (c : List Statement) (g s : ℕ) : Type 0 where
  pub name : Name
  pub kind : Kind
  pub args : List Name
  pub read : Name
  pub gate : Contains c (Gate name kind args)
  pub number : signal c name ≡ g
  pub reads : Contains args read
  pub of : signal c read ≡ s

-- an observer observes the signal
abbrev pub IsObserved : List Statement → ℕ → Type 0
IsObserved c s = (o : Sink × Name) × Contains (observers c) o × (signal c o.1 ≡ s)

-- A live signal reaches an observer: one observes it, or a gate with a live signal reads it. No
-- test can show the effect of a fault on any other signal.
pub data IsLive (c : List Statement) : ℕ → Type 0 where
  observed : {s : ℕ} → IsObserved c s → IsLive c s
  through : {s g : ℕ} → Reads c g s → IsLive c g → IsLive c s

-- each gate comes after the signals that it reads
abbrev pub IsRising : List Statement → Type 0
IsRising c = (g s : ℕ) → Reads c g s → s < g
