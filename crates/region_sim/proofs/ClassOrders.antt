-- The classes in the order of their visits.
use Rattle.std.proofs.Common.{◌≡◌, ◌<◌, ◌≤◌, ◌+◌, ◌⊎◌, inl, inr, ℕ, List, [], ◌∷◌, ◌++◌, length}
use Rattle.std.proofs.Common.{get_or, Some, sym, ap, All, ◌∙◌, subst, arith, length-append}
use Rattle.std.{specs.Prelude.slice_get, proofs.Math.Seq.get_or-append_seam}
use Rattle.std.proofs.lemmas.{Bool.cases_lt, List.get_or_append_left}
use Rattle.std.proofs.lemmas.Option.{get_or_from_slice_get, slice_get-get_or, slice_get_within}
use Rattle.list_lemmas.proofs.Places.{place_within, within_place}
use Rattle.bench_net.specs.{Circuit.IsWellFormed, Scan.names, Statement.Statement}
use Rattle.fault_model.specs.Reordered.{HasSameSignals, IsReordered, place}
use Rattle.fault_model.proofs.Public.{in_signal_order, same_signals}
use Rattle.flat_circuit.specs.{Arranged.{ArePlaces, IsArranged}, Regions.IsStemOfClass}
use Rattle.flat_circuit.proofs.Public.{one_class_stem}
use Rattle.block_sim.specs.Parts.{Parts}
use Rattle.region_sim.specs.ClassOrder.{AreVisits, AreVisitsTo, AreAllByRegion}
use Rattle.counting_sort.specs.SortedPlaces.{AreSortedPlaces, GoesFirst}

-- the places of signals are numbers of signals, each of one signal
module _ (c d : List Statement) (places : List ℕ) (well : IsWellFormed c) (is : IsArranged c d)
    (are : ArePlaces c d places) where
  reordered : IsReordered c d
  reordered = subst (IsReordered c) (sym is.2) (in_signal_order c is.0 is.1.signals well).reordered

  signals : HasSameSignals c d
  signals = same_signals c d well reordered

  pub places_apart : (r q : ℕ) → r < length (names c) → q < length (names c)
      → get_or places r 0 ≡ get_or places q 0 → r ≡ q
  places_apart r q low lt e = signals.apart r q (sym (are r low) ∙ e ∙ are q lt)

  pub places_low : (s : ℕ) → s < length (names c) → get_or places s 0 < length (names c)
  places_low s lt =
      let n = within_place (names c) s lt in
      let low = place_within (names d) (place c d s) n.0 (signals.named s ∙ n.1) in
      omega (arith, low, are s lt, signals.count)

-- the visit to one class more
pub visits_more : (job : Parts) (places : List ℕ) (n stem visit : ℕ) (visits : List ℕ)
    → AreVisitsTo job places n visits → IsStemOfClass job.list.model job.circuit n stem
    → stem < length (names job.circuit) → visit ≡ get_or places stem 0
    → AreVisitsTo job places (n + 1) (visits ++ visit ∷ [])
visits_more job places n stem visit visits was of within is = record {
  count = omega (arith, was.count, length-append visits (visit ∷ []));
  each = λ class r lt at. go class r at lt (cases_lt class n);
}
  where
    go : (class r : ℕ) → IsStemOfClass job.list.model job.circuit class r → class < n + 1
        → (class < n) ⊎ (n ≤ class) → (r < length (names job.circuit))
        × (get_or (visits ++ visit ∷ []) class 0 ≡ get_or places r 0)
    go class r at lt (inl low) =
        let x = was.each class r low at in (
          x.0,
          get_or_append_left visits (visit ∷ []) 0 class (omega (arith, low, was.count)) ∙ x.1,
        )
    go class r at lt (inr high) =
        let last : class ≡ n = omega (arith, high, lt) in
        let there = subst (λ k. IsStemOfClass job.list.model job.circuit k r) last at in
        let same = one_class_stem job.list.model job.circuit n stem r of there in (
          subst (λ s. s < length (names job.circuit)) same within,
          ap (λ k. get_or (visits ++ visit ∷ []) k 0) (last ∙ sym was.count)
              ∙ get_or-append_seam visits visit [] 0 ∙ is ∙ ap (λ s. get_or places s 0) same,
        )

-- the classes by their visits are all classes region by region
pub all_in_order : (job : Parts) (visits classes : List ℕ) → AreVisits job visits
    → AreSortedPlaces visits classes → AreAllByRegion job classes
all_in_order job visits classes known sorted = record {
  visits = known.places;
  each = λ k class at. (low k class at, tt);
  all = λ class lt of.
      let x = sorted.all class (omega (arith, lt, known.are.count)) in
      (x.0, slice_get-get_or classes x.0 class x.1 ∙ ap Some x.2);
  ordered = λ i k first second lt ea eb r q ra qb.
      let left = known.are.each first r (low i first ea) ra in
      let right = known.are.each second q (low k second eb) qb in
      let goes = sorted.ordered i k 0 lt (slice_get_within classes k second eb) in
      let ga = get_or_from_slice_get classes i first 0 ea in
      let gb = get_or_from_slice_get classes k second 0 eb in
      before first second r q left.0 right.0 left.1 right.1
      (subst (λ b. GoesFirst visits first b) gb
      (subst (λ a. GoesFirst visits a (get_or classes k 0)) ga goes));
  few = omega (arith, sorted.count, known.are.count);
}
  where
    low : (k class : ℕ) → slice_get classes k ≡ Some class
        → class < length job.classes.representative
    low k class at =
        let lt = sorted.within k 0 (slice_get_within classes k class at) in
        let same = get_or_from_slice_get classes k class 0 at in
        omega (arith, lt, same, known.are.count)

    before : (first second r q : ℕ) → r < length (names job.circuit)
        → q < length (names job.circuit) → get_or visits first 0 ≡ get_or known.places r 0
        → get_or visits second 0 ≡ get_or known.places q 0 → GoesFirst visits first second
        → (get_or known.places r 0 < get_or known.places q 0)
        ⊎ ((get_or known.places r 0 ≡ get_or known.places q 0)
        × ((r < q) ⊎ ((r ≡ q) × (first < second))))
    before first second r q rl ql va vb (inl x) = inl (omega (arith, x, va, vb))
    before first second r q rl ql va vb (inr x) =
        let e : get_or known.places r 0 ≡ get_or known.places q 0 = omega (arith, x.0, va, vb) in
        inr (e, inr (known.apart r q rl ql e, x.1))

-- all classes in an order are classes of the job
pub all_within : (job : Parts) (classes : List ℕ) → AreAllByRegion job classes
    → All (λ class. class < length job.classes.representative) classes
all_within job classes are k d lt =
    (are.each k (get_or classes k d) (slice_get-get_or classes k d lt)).0
