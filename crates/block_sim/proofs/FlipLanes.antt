-- The lanes in which a complemented signal is detected, from one simulation that complements it in
-- lanes of both bits.
use Rattle.std.proofs.Common.{◌≡◌, ◌<◌, ℕ, refl, ◌∙◌, ap, Bool, true, false, not, List, length}
use Rattle.std.specs.Prelude.{Some, None, slice_index_or}
use Rattle.bench_net.specs.{Statement.{Name, Statement}, Scan.{names, signal, name_of}}
use Rattle.bench_net.{specs.Circuit.IsWellFormed, proofs.Public.signal-name_of}
use Rattle.list_lemmas.proofs.{Members.{Among, contained}, Places.{at_place, within_place}}
use Rattle.fault_model.specs.declared.Line.TheVariants as line
use Rattle.fault_model.specs.{Fault.Fault, Solution.Test, Detection.HasBit}
use Rattle.block_sim.specs.{Flips.flip, Propagation.IsFirstChange}
use Rattle.block_sim.proofs.FaultStart.{first_on_stem}
use Rattle.flat_circuit.specs.Words.{lane, lane_bits, test_of, AreWords}
use Rattle.flat_circuit.proofs.Public.{lane_xor, unlike}

-- the faults that complement a signal, in each lane from the bit that the signal has there
abbrev pub flips : List ℕ → ℕ → ℕ → Fault
flips good s k = flip s (lane (slice_index_or good s 0) k)

turned_bit : (a l : Bool) → l ≡ true → unlike a l ≡ not a
turned_bit true l e = ap not e
turned_bit false l e = e

module _ (c : List Statement) (well : IsWellFormed c) (tests : List Test) (group : ℕ)
    (good : List ℕ)
    (words : AreWords c tests group None good) (s : ℕ) (low : s < length (names c)) where
  pub flip_first : (delta : List ℕ) (lanes : ℕ) → s < length delta
      → IsFirstChange c tests group (flips good s) good lanes delta s lanes
  flip_first delta lanes within =
      first_on_stem c tests group (flips good s) good lanes delta s lanes well
      (λ k. refl) within words (λ k lt e. lane_xor (slice_index_or good s 0) lanes k
      ∙ turned_bit (lane (slice_index_or good s 0) k) (lane lanes k) e)

  name : (n : Name) × (name_of c s ≡ Some n)
  name = within_place (names c) s low

  here : Among name.0 (names c)
  here = at_place (names c) s name.0 name.1

  number : signal c name.0 ≡ s
  number = signal-name_of c s name.0 well.once name.1 (contained (names c) name.0 here)

  pub has_bit : (k : ℕ) → k < 128 → HasBit c (test_of tests group k) (line.Stem s)
      (lane (slice_index_or good s 0) k)
  has_bit k lt = (
    lane_bits c good k,
    name.0,
    words k lt,
    name.1,
    ap (λ x. lane (slice_index_or good x 0) k) number,
  )
