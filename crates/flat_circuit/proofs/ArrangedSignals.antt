-- A circuit, and the circuit with its statements in the order of their places: the place of each
-- signal is its number in the second.
use Rattle.std.proofs.Common.{◌≡◌, ◌<◌, ◌≤◌, ℕ, refl, sym, ◌∙◌, ap, subst, List, [], ◌∷◌, arith}
use Rattle.std.proofs.{Common.{inl, inr, length, ◌⊎◌}, lemmas.Bool.cases_order}
use Rattle.std.specs.Prelude.{Contains, Some, slice_index_or, map}
use Rattle.std.proofs.lemmas.{List.Elements.Contains-get_or, Option.slice_get-get_or}
use Rattle.bench_net.specs.declared.Sink.TheVariants as sink
use Rattle.bench_net.specs.{Statement.{Name, Statement, Gate}, Circuit.IsWellFormed}
use Rattle.bench_net.specs.{Scan.{names, observers, sources, signal}, Level.{HasDepth, HasLevel}}
use Rattle.bench_net.proofs.Public.{name_of-signal, read_named}
use Rattle.list_lemmas.proofs.Members.{Among, among, among_map}
use Rattle.list_lemmas.proofs.Places.{at_place, place_within, within_place}
use Rattle.patterns.{specs.Least.below, proofs.Public.{get_or-below, length-below}}
use Rattle.fault_model.specs.declared.Line.TheVariants as line
use Rattle.fault_model.specs.{Detection.name_on, Reordered.{HasSameSignals, IsReordered, place}}
use Rattle.fault_model.proofs.Public.{below_greatest, in_signal_order, same_signals, same_sources}
use Rattle.fault_model.proofs.Public.{well_reordered}
use Rattle.flat_circuit.specs.Arranged.{ArePlaces, IsArranged, IsFlowOrder}
use Rattle.flat_circuit.{specs.Readers.{Reads, IsRising}, proofs.Readers.no_loop}
use Rattle.flat_circuit.proofs.ObservedLines.{data_observed, output_observed, observed_named}
use Rattle.flat_circuit.proofs.ReorderedReaders.{reads_back}

module _ (c d : List Statement) (well : IsWellFormed c) (arranged : IsArranged c d) where
  pub reordered : IsReordered c d
  reordered = subst (IsReordered c) (sym arranged.2)
      (in_signal_order c arranged.0 arranged.1.signals well).reordered

  pub well_there : IsWellFormed d
  well_there = well_reordered c d reordered.statements well

  pub signals_there : HasSameSignals c d
  signals_there = same_signals c d well reordered

  pub count_there : length (names d) ≡ length (names c)
  count_there = signals_there.count

  pub sources_there : sources d ≡ sources c
  sources_there = same_sources c d well reordered

  pub within_there : (s : ℕ) → s < length (names c) → place c d s < length (names d)
  within_there s lt =
      let n = within_place (names c) s lt in
      place_within (names d) (place c d s) n.0 (signals_there.named s ∙ n.1)

  -- the signal of a name, by its number in both lists
  pub named_there : (n : Name) (s : ℕ) → Contains (names c) n → s ≡ signal c n
      → (s < length (names c)) × (place c d s ≡ signal d n)
  named_there n s at is = (
    subst (λ x. x < length (names c)) (sym is)
        (place_within (names c) (signal c n) n (name_of-signal c n at)),
    ap (place c d) is ∙ sym (signals_there.numbered n at),
  )

  pub data_same : (i : ℕ) → name_on d (line.Data i) ≡ name_on c (line.Data i)
  data_same i = rw reordered.same_cells refl

  pub output_same : (o : ℕ) → name_on d (line.Out o) ≡ name_on c (line.Out o)
  output_same o = rw reordered.same_outputs refl

  pub data_named : (i : ℕ) (n : Name) → name_on c (line.Data i) ≡ Some n → Contains (names c) n
  data_named i n e = observed_named c (sink.Data i, n) well
      (among (observers c) (sink.Data i, n) (data_observed c i n e))

  pub output_named : (o : ℕ) (n : Name) → name_on c (line.Out o) ≡ Some n → Contains (names c) n
  output_named o n e = observed_named c (sink.Out o, n) well
      (among (observers c) (sink.Out o, n) (output_observed c o n e))

  -- the order has at a place the signal of this place
  pub at_order : (i : ℕ) → i < length arranged.0 → place c d (slice_index_or arranged.0 i 0) ≡ i
  at_order i lt = ap (λ x. place c x (slice_index_or arranged.0 i 0)) arranged.2
      ∙ (in_signal_order c arranged.0 arranged.1.signals well).places i
      (slice_index_or arranged.0 i 0) (slice_get-get_or arranged.0 i 0 lt)

  -- a statement that stands before another in the second circuit stands before it in the order
  stands_at : (i : ℕ) → i < length (names d)
      → (i < length arranged.0) × (place c d (slice_index_or arranged.0 i 0) ≡ i)
  stands_at i lt =
      let long : i < length arranged.0 = omega (arith, lt, count_there, arranged.1.signals.count) in
      (long, at_order i long)

  rises : (i j : ℕ) → i < j → j < length (names d) → Reads d i j → ⊥
  rises i j less high reads =
      let low = stands_at i (omega (arith, less, high)) in
      let top = stands_at j high in
      let order = arranged.0 in
      let there : Reads d i (place c d (slice_index_or order j 0)) =
      subst (Reads d i) (sym top.1) reads in
      let back = reads_back c d well reordered i (slice_index_or order j 0) there in
      let same : slice_index_or order i 0 ≡ back.0 =
      signals_there.apart (slice_index_or order i 0) back.0 (low.1 ∙ back.1) in
      arranged.1.forward i j 0 less top.0
      (subst (λ x. Reads c x (slice_index_or order j 0)) (sym same) back.2)

  -- in the second circuit each gate comes after the signals that it reads
  pub rising_there : IsRising d
  rising_there g s r = go (cases_order s g)
    where
      at : Contains (names d) r.read
      at = read_named d (Gate r.name r.kind r.args) r.read well_there (among d _ r.gate)
          (among r.args r.read r.reads)

      within : s < length (names d)
      within = let lt = place_within (names d) (signal d r.read) r.read
          (name_of-signal d r.read at) in
          let of = r.of in omega (arith, lt, of)

      go : (s ≡ g) ⊎ ((s < g) ⊎ (g < s)) → s < g
      go (inl same) = absurd (no_loop d g well_there (subst (Reads d g) same r))
      go (inr (inl lt)) = lt
      go (inr (inr gt)) = absurd (rises g s gt within r)

  -- in the second circuit the numbers are a topological order
  pub natural_order : IsFlowOrder d (below (length (names d)))
  natural_order = record {
    signals = record {
      all = λ s lt.
          subst (Contains (below (length (names d)))) (get_or-below (length (names d)) s 0 lt)
          (Contains-get_or (below (length (names d))) s 0 (omega (
            arith,
            lt,
            length-below (length (names d)),
          )));
      count = length-below (length (names d));
      ascending = λ i j k less long one other. (let at = numbers i j k less long in
          omega (arith, at.1.0, at.1.1, less));
    };
    forward = λ i j k less long reads. (let at = numbers i j k less long in
        rises i j less at.0 (subst (Reads d i) at.1.1 (subst (λ x. Reads d x
        (slice_index_or (below (length (names d))) j k)) at.1.0 reads)));
  }
    where
      numbers : (i j k : ℕ) → i < j → j < length (below (length (names d))) → (j < length (names d))
          × ((slice_index_or (below (length (names d))) i k ≡ i)
          × (slice_index_or (below (length (names d))) j k ≡ j))
      numbers i j k less long =
          let high : j < length (names d) =
          omega (arith, long, length-below (length (names d))) in (
            high,
            (
              get_or-below (length (names d)) i k (omega (arith, less, high)),
              get_or-below (length (names d)) j k high,
            ),
          )

  -- each signal has a level, which is at most the depth
  pub deep_there : (depth : ℕ) → HasDepth c depth → (s : ℕ) → s < length (names d)
      → (level : ℕ) × HasLevel d s level × (level ≤ depth)
  deep_there depth has s lt =
      let from = signals_there.onto s lt in
      let n = within_place (names c) from.0 from.1 in
      let at : HasLevel c from.0 (has.0 n.0) = (has.0, n.0, has.1, n.1, refl) in
      let le = below_greatest (map has.0 (names c)) (has.0 n.0)
      (among_map has.0 (names c) n.0 (at_place (names c) from.0 n.0 n.1)) in (
        has.0 n.0,
        subst (λ x. HasLevel d x (has.0 n.0)) (sym from.2)
            ((signals_there.levels from.0 (has.0 n.0)).0 at),
        omega (arith, le, has.2),
      )

  -- a table of places has the places of the signals in a list
  pub places_of_all : (places xs : List ℕ) → ArePlaces c d places
      → ((s : ℕ) → Among s xs → s < length (names c))
      → map (λ s. slice_index_or places s 0) xs ≡ map (place c d) xs
  places_of_all places [] are within = refl
  places_of_all places (x ∷ xs) are within = rw (
    are x (within x (inl refl)),
    places_of_all places xs are (λ s a. within s (inr a)),
  ) refl
