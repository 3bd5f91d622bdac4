-- Signals in the order of their keys stand in a topological order.
use Rattle.std.proofs.Common.{◌≡◌, ◌<◌, inl, inr, ℕ, List, length, arith, ◌∙◌}
use Rattle.std.specs.Prelude.{slice_index_or}
use Rattle.bench_net.specs.{Statement.Statement, Scan.names}
use Rattle.counting_sort.specs.SortedPlaces.{AreSortedPlaces, GoesFirst}
use Rattle.fault_model.specs.Reordered.{IsSourceAt}
use Rattle.flat_circuit.specs.{Arranged.IsFlowOrder, Readers.Reads, SignalOrder.HaveKeys}

module _ (c : List Statement) (keys order : List ℕ)
    (room : length keys ≡ length (names c)) (have : HaveKeys c keys)
    (are : AreSortedPlaces keys order) where
  sources_rise : (s t : ℕ) → s < length keys → t < length keys → GoesFirst keys s t
      → IsSourceAt c s → IsSourceAt c t → s < t
  sources_rise s t slt tlt (inl lt) ss st =
      let none = (have t (omega (arith, tlt, room))).source st in absurd (omega (arith, lt, none))
  sources_rise s t slt tlt (inr e) ss st = e.1

  reads_back : (s t : ℕ) → s < length keys → GoesFirst keys s t → Reads c s t → ⊥
  reads_back s t slt before r = by before
    where
      above : slice_index_or keys t 0 < slice_index_or keys s 0
      above = (have s (omega (arith, slt, room))).gate t r

      by : GoesFirst keys s t → ⊥
      by (inl lt) = omega (arith, lt, above)
      by (inr e) = omega (arith, e.0, above)

  pub sorted_flow : IsFlowOrder c order
  sorted_flow = record {
    signals = record {
      all = λ s lt. are.all s (omega (arith, lt, room));
      count = are.count ∙ room;
      ascending = λ i j d lt within.
          sources_rise _ _ (are.within i d (omega (arith, lt, within))) (are.within j d within)
          (are.ordered i j d lt within);
    };
    forward = λ i j d lt within.
        reads_back _ _ (are.within i d (omega (arith, lt, within))) (are.ordered i j d lt within);
  }
