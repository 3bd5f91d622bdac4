-- The end of following a fault, in words in another order, is true of the original circuit.
use Rattle.std.proofs.Common.{ℕ, List}
use Rattle.bench_net.specs.{Statement.Statement, Circuit.IsWellFormed}
use Rattle.fault_model.specs.{Fault.Fault, Solution.Test, Reordered.moved_fault}
use Rattle.fault_model.proofs.Public.{detected_same}
use Rattle.region_sim.specs.{declared.region.Reach.TheVariants.Observed, Reached.IsReached}
use Rattle.flat_circuit.{specs.Arranged.IsArranged, specs.Words.test_of, proofs.Public.reordered}

module _ (c d : List Statement) (well : IsWellFormed c) (arranged : IsArranged c d) where
  -- the same tests of a group detect a fault
  pub reached_there : (tests : List Test) (group : ℕ) (f : Fault) (mask word : ℕ)
      → IsReached d tests group (moved_fault c d f) mask (Observed word)
      → IsReached c tests group f mask (Observed word)
  reached_there tests group f mask word h k lt =
      let same = detected_same c d well (reordered c d well arranged) (test_of tests group k) f in (
        λ e. (((h k lt).0 e).0, same.1 ((h k lt).0 e).1),
        λ e. (h k lt).1 (e.0, same.0 e.1),
      )
