-- Chains of next faults, which a plain program follows.
use Rattle.std.{proofs.Common.{◌≡◌, ℕ, zero, suc, refl, List}, specs.Prelude.{Option, Some, None}}
use Rattle.std.specs.Option.{option_map_or}
use Rattle.bench_net.specs.Statement.{Statement}
use Rattle.fault_model.specs.{Collapse.{Reaches, Represents, here, next, onward}, Fault.Fault}

-- the fault after at most this many next faults
abbrev pub last_within : ℕ → List Statement → Fault → Fault
last_within zero c f = f
last_within (suc n) c f = option_map_or (last_within n c) (next c f) f

reaches_within : (n : ℕ) (c : List Statement) (f : Fault) → Reaches c f (last_within n c f)
reaches_within zero c f = here
reaches_within (suc n) c f = go (reaches_within n c) (next c f) refl
  where
    go : ((g : Fault) → Reaches c g (last_within n c g)) → (o : Option Fault) → next c f ≡ o
        → Reaches c f (option_map_or (last_within n c) o f)
    go reached None e = here
    go reached (Some g) e = onward e (reached g)

-- if the chain ends at a fault without a next one, that is the representative
pub represents : (n : ℕ) (c : List Statement) (f : Fault) → next c (last_within n c f) ≡ None
    → Represents c f (last_within n c f)
represents n c f ends = (reaches_within n c f, ends)
