-- A table of the places of signals in an order, while it is written from the first place on.
use Rattle.std.proofs.Common.{◌≡◌, ◌<◌, ◌+◌, ℕ, refl, sym, ◌∙◌, ap, List, length, set, arith}
use Rattle.std.proofs.Common.{get_or-set_other, get_or-set_same, below_more, ◌≢◌}
use Rattle.std.specs.Prelude.{slice_index_or}
use Rattle.std.proofs.lemmas.Option.{slice_get-get_or, get_or_from_slice_get}
use Rattle.bench_net.specs.{Statement.Statement, Circuit.IsWellFormed}
use Rattle.list_lemmas.proofs.{Members.among, Places.{placed, place_within}}
use Rattle.fault_model.{specs.Reordered.{place, in_order}, proofs.Public.in_signal_order}
use Rattle.flat_circuit.{specs.Arranged.{ArePlaces, IsFlowOrder}, proofs.FlowOrder.flow_within}

-- the table has the first places of an order
abbrev pub HasPlaces : List ℕ → List ℕ → ℕ → Type 0
HasPlaces order places i = (j : ℕ) → j < i → slice_index_or places (slice_index_or order j 0) 0 ≡ j

module _ (c : List Statement) (well : IsWellFormed c) (order : List ℕ) (is : IsFlowOrder c order)
  where
    place_at : (i : ℕ) → i < length order → place c (in_order c order) (slice_index_or order i 0) ≡
        i
    place_at i lt = (in_signal_order c order is.signals well).places i (slice_index_or order i 0)
        (slice_get-get_or order i 0 lt)

    pub one_more : (places : List ℕ) (i : ℕ) → i < length order
        → length places ≡ length order → HasPlaces order places i
        → HasPlaces order (set places (slice_index_or order i 0) i) (i + 1)
    one_more places i lt room known = below_more _ i before here
      where
        apart : (j : ℕ) → j < i → slice_index_or order j 0 ≢ slice_index_or order i 0
        apart j less same =
            let one = place_at j (omega (arith, less, lt)) in
            let two = place_at i lt in
            let e : j ≡ i = sym one ∙ (ap (place c (in_order c order)) same ∙ two) in
            omega (arith, e, less)

        before : (j : ℕ) → j < i
            → slice_index_or (set places (slice_index_or order i 0) i) (slice_index_or order j 0) 0
            ≡ j
        before j less =
            let other : slice_index_or order j 0 ≢ slice_index_or order i 0 = apart j less in
            rw get_or-set_other (known j less)

        here : slice_index_or (set places (slice_index_or order i 0) i) (slice_index_or order i 0) 0
            ≡ i
        here =
            let low = flow_within c order i is lt in
            let count = is.signals.count in
            let within : slice_index_or order i 0 < length places = omega (arith, low, count, room)
            in rw get_or-set_same refl

    pub all_places : (places : List ℕ) → HasPlaces order places (length order)
        → ArePlaces c (in_order c order) places
    all_places places known s lt =
        let at = placed order s (among order s (is.signals.all s lt)) in
        let own : slice_index_or order at.0 0 ≡ s = get_or_from_slice_get order at.0 s 0 at.1 in
        let kept = known at.0 (place_within order at.0 s at.1) in
        let moved = (in_signal_order c order is.signals well).places at.0 s at.1 in
        ap (λ x. slice_index_or places x 0) (sym own) ∙ (kept ∙ sym moved)
