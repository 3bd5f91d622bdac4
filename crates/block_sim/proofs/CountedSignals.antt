-- The signals that count in an event-driven simulation: live signals, and signals up to the level
-- of the start.
use Rattle.std.proofs.Common.{◌<◌, ◌≤◌, ℕ, List, arith, inl, inr}
use Rattle.bench_net.specs.Statement.{Statement}
use Rattle.flat_circuit.specs.Readers.{Reads, IsLive, through}
use Rattle.block_sim.specs.Propagation.{Counts}

module _ (c : List Statement) (lv : ℕ → ℕ) (start : ℕ) (rises : (g s : ℕ) → Reads c g s
    → lv s < lv g) where
  -- the signals that a counted signal reads count too
  pub counts_closed : (g s : ℕ) → Reads c g s → Counts c lv start g → Counts c lv start s
  counts_closed g s reads (inl live) = inl (through reads live)
  counts_closed g s reads (inr low) = let up = rises g s reads in inr (omega (arith, low, up))

  -- a gate that counts is live if it reads a signal that is not below the start
  pub reader_live : (s g : ℕ) → lv start ≤ lv s → Counts c lv start g → Reads c g s → IsLive c g
  reader_live s g from (inl live) reads = live
  reader_live s g from (inr low) reads = let up = rises g s reads in
      absurd (omega (arith, low, up, from))
