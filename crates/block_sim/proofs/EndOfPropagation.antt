-- The end of an event-driven simulation: the seen lanes are the lanes in which the fault is shown,
-- and the evaluated gates were active.
use Rattle.std.proofs.Common.{◌≡◌, ◌≢◌, ◌<◌, ℕ, ◌+◌, ◌*◌, refl, sym, ◌∙◌, ap, subst, Bool, true}
use Rattle.std.proofs.Common.{false, not, List, [], length, set, arith, inl, inr, ◌⊎◌}
use Rattle.std.specs.Prelude.{Contains, Some, None, slice_get, slice_index_or}
use Rattle.std.proofs.lemmas.{List.{get_or-set_same, get_or-set_other}, Bool.{cases_eq, false≢true}}
use Rattle.bench_net.specs.{declared.Sink.Sink, Statement.{Name, Statement, Gate}}
use Rattle.bench_net.specs.{Scan.{names, signal, observers}, Circuit.IsWellFormed}
use Rattle.bench_net.proofs.Public.{read_named}
use Rattle.list_lemmas.proofs.{Members.among, Places.{within_place, placed}}
use Rattle.fault_model.specs.declared.Line.TheVariants as line
use Rattle.fault_model.specs.{Fault.{Fault, branch}, Solution.{Test, Solves, Detects, shows}}
use Rattle.fault_model.proofs.Public.{detection_is_of_any_solution, has_solutions, under_other}
use Rattle.fault_model.proofs.Public.{observes}
use Rattle.block_sim.specs.{First.AreDetectingLanes, Flips.AreLanesFor}
use Rattle.block_sim.proofs.{DetectingTests.told_of_lanes, CountedSignals.counts_closed}
use Rattle.block_sim.specs.ActiveGates.{AreInGroup, IsActiveIn, IsActiveBy, HasActiveIn}
use Rattle.block_sim.specs.Events.{bits_of, HasEquation, IsElsewhere}
use Rattle.block_sim.specs.Propagation.{IsPropagating, IsBalanced, Counts, IsFirstChange, AreSeen}
use Rattle.block_sim.specs.Propagation.{AreShown, IsApart, HasTouched}
use Rattle.block_sim.proofs.Balanced.{balanced_solves, fault_free_holds}
use Rattle.block_sim.proofs.TrueBelowLevel.{right_by_now}
use Rattle.flat_circuit.specs.{Words.{lane, lane_bits, test_of, AreWords}, BlockSpans.group_of}
use Rattle.flat_circuit.specs.{declared.block_span.BlockSpan.BlockSpan, Readers.{Reads, observed}}
use Rattle.flat_circuit.proofs.Public.{lane_xor, lane_zero, unlike, lane_same, index_of}

turned : (a b : Bool) → b ≡ true → a ≢ unlike a b
turned true b e h = let n : true ≡ not b = h in absurd (false≢true (sym (ap not e) ∙ sym n))
turned false b e h = let n : false ≡ b = h in absurd (false≢true (n ∙ e))

alike : (a b : Bool) → a ≢ unlike a b → b ≡ true
alike a true h = refl
alike true false h = absurd (h refl)
alike false false h = absurd (h refl)

-- ---- the tests of the group that detect the fault, from the lanes in which it is shown
pub told_of_shown : (c : List Statement) (tests : List Test) (span : BlockSpan) (r : Fault)
    (good : List ℕ) (lanes seen : ℕ)
    → IsWellFormed c → AreWords c tests (group_of span) None good → AreLanesFor tests span c r lanes
    → (settled : ℕ → Type 0) → AreShown c tests (group_of span) (λ _. r) good lanes settled seen
    → AreDetectingLanes c tests span r settled seen
told_of_shown c tests span r good lanes seen well words decides settled h =
    told_of_lanes c tests span r lanes seen decides settled found clear
  where
    found : (k : ℕ) → k < 128 → lane seen k ≡ true
        → (lane lanes k ≡ true) × Detects c (test_of tests (group_of span) k) r
    found k lt e =
        let f = h.found k lt e in
        let u = has_solutions c well (test_of tests (group_of span) k) (Some r) in (
          f.0,
          (detection_is_of_any_solution c well r (test_of tests (group_of span) k)
              (lane_bits c good k) u.0 (words k lt) u.1).1 (f.1 u.0 u.1),
        )

    clear : (k : ℕ) → k < 128 → lane lanes k ≡ true → lane seen k ≡ false → (settled k → ⊥)
        → Detects c (test_of tests (group_of span) k) r → ⊥
    clear k lt in_lanes unseen unsettled d =
        let v = h.clear k lt in_lanes unseen unsettled in
        v.2 ((detection_is_of_any_solution c well r (test_of tests (group_of span) k)
        (lane_bits c good k) v.0 (words k lt) v.1).0 d)

-- ---- the seen lanes
module _ (c : List Statement) (tests : List Test) (group : ℕ) (f : ℕ
    → Fault) (good : List ℕ) (lanes : ℕ) (lv : ℕ → ℕ) (start mask : ℕ) (delta at : List ℕ)
    (level : ℕ) (well : IsWellFormed c)
    (h : IsPropagating c tests group f good lanes lv start mask delta at level) where
  pub shown_from : (settled : ℕ → Type 0) (seen : ℕ) → ((g s : ℕ) → Reads c g s → lv s < lv g)
      → ((s : ℕ) → slice_index_or at s 0 ≡ 0)
      → ((o : Sink × Name) (k : ℕ) → Contains (observers c) o → (f k).line ≢ branch o.0)
      → AreSeen c delta mask seen
      → ((k : ℕ) → k < 128 → lane lanes k ≡ true → lane mask k ≡ false → settled k)
      → AreShown c tests group f good lanes settled seen
  shown_from settled seen rises idle off are out = record {
    found = λ k lt e. let s = are.found k lt e in
        (h.inside s.0 k lt s.2, λ v solves. found k lt s.0 s.2 s.1.0 s.1.1 s.1.2 v solves);
    clear = λ k lt in_lanes none unsettled.
        let m = followed k lt in_lanes unsettled (lane mask k) refl in
        let u = has_solutions c well (test_of tests group k) (Some (f k)) in
        (u.0, u.1, λ a. unseen k lt m none u.0 u.1 a.0 a.1 a.2);
  }
    where
      shown : (k : ℕ) (v : Name → Bool) (o : Sink × Name) → Contains (observers c) o
          → v o.1 ≡ bits_of c good delta k o.1
          → shows (Some (f k)) v o ≡ unlike (lane (slice_index_or good (signal c o.1) 0) k)
          (lane (slice_index_or delta (signal c o.1) 0) k)
      shown k v o there is = under_other (f k) (branch o.0) (v o.1) (off o k there)
          ∙ (is ∙ lane_xor (slice_index_or good (signal c o.1) 0)
          (slice_index_or delta (signal c o.1) 0) k)

      found : (k : ℕ) → k < 128 → (s : ℕ) → lane (slice_index_or delta s 0) k ≡ true
          → (o : Sink × Name) → Contains (observers c) o → signal c o.1 ≡ s
          → (v : Name → Bool) → Solves c (test_of tests group k) (Some (f k)) v
          → IsApart c (f k) good k v
      found k lt s differs o there number v solves =
          let here : lane (slice_index_or delta (signal c o.1) 0) k ≡ true =
          ap (λ x. lane (slice_index_or delta x 0) k) number ∙ differs in
          let is = h.right s k lt differs o.1 v (observes c o well there).named number solves in (
            o,
            there,
            λ e. turned (lane (slice_index_or good (signal c o.1) 0) k)
                (lane (slice_index_or delta (signal c o.1) 0) k) here (e
                ∙ shown k v o there (sym is)),
          )

      followed : (k : ℕ) → k < 128 → lane lanes k ≡ true → (settled k → ⊥) → (m : Bool)
          → lane mask k ≡ m → lane mask k ≡ true
      followed k lt in_lanes unsettled true e = e
      followed k lt in_lanes unsettled false e = absurd (unsettled (out k lt in_lanes e))

      -- an observed signal counts, so its bit is its bit in every solution
      settled_bit : (k : ℕ) → k < 128 → lane mask k ≡ true → (v : Name → Bool)
          → Solves c (test_of tests group k) (Some (f k)) v → (o : Sink × Name)
          → Contains (observers c) o → bits_of c good delta k o.1 ≡ v o.1
      settled_bit k lt m v solves o there =
          right_by_now c (Counts c lv start) (counts_closed c lv start rises) tests group f good
          mask delta at h.balanced lv (lv (signal c o.1)) well rises
          (λ g waits. absurd (waits (idle g))) k lt m v solves o.1
          (among (names c) o.1 (observes c o well there).named)
          (inl (observed (o, there, refl))) (omega arith) (idle (signal c o.1))

      unseen : (k : ℕ) → k < 128 → lane mask k ≡ true → lane seen k ≡ false → (v : Name → Bool)
          → Solves c (test_of tests group k) (Some (f k)) v
          → (o : Sink × Name) → Contains (observers c) o
          → shows None (lane_bits c good k) o ≢ shows (Some (f k)) v o → ⊥
      unseen k lt m none v solves o there differ =
          let same = sym (settled_bit k lt m v solves o there) in
          let here = alike (lane (slice_index_or good (signal c o.1) 0) k)
          (lane (slice_index_or delta (signal c o.1) 0) k)
          (λ e. differ (e ∙ sym (shown k v o there same))) in
          false≢true (sym none ∙ are.shown (signal c o.1) k lt m (o, there, refl) here)

  -- a gate that reads a signal that differs is active
  pub touched_active : (g s : ℕ) → AreWords c tests group None good → AreInGroup tests group lanes
      → ((t k : ℕ) → t ≢ start → IsElsewhere (f k) t) → ((a b : ℕ) → Reads c a b → lv b < lv a)
      → Reads c g s → slice_index_or delta s 0 ≢ 0 → IsActiveIn c tests group lanes f g
  touched_active g s words sized elsewhere rises r ne =
      let d = h.some s ne in
      let own = h.inside s d.0 d.1 d.2 in
      let place = within_place tests (128 * group + d.0) (sized d.0 d.1 own) in
      let same : test_of tests group d.0 ≡ place.0 =
      index_of tests (128 * group + d.0) place.0 [] place.1 in (
        d.0,
        place.0,
        d.1,
        own,
        place.1,
        subst (λ t. IsActiveBy c t (f d.0) g) same (active d.0 d.1 d.2),
      )
    where
      off : (k : ℕ) → IsElsewhere (f k) g
      off k = elsewhere g k (λ e. let up = rises g s r in let from = h.after_start s ne in
          let is : lv g ≡ lv start = ap lv e in omega (arith, up, from, is))

      pin : (i : ℕ) × (slice_get r.args i ≡ Some r.read)
      pin = placed r.args r.read (among r.args r.read r.reads)

      active : (k : ℕ) → k < 128 → lane (slice_index_or delta s 0) k ≡ true
          → IsActiveBy c (test_of tests group k) (f k) g
      active k lt differs =
          let u = has_solutions c well (test_of tests group k) (Some (f k)) in
          let named : Contains (names c) r.read =
          read_named c (Gate r.name r.kind r.args) r.read well (among c _ r.gate)
          (among r.args r.read r.reads) in
          let is = h.right s k lt differs r.read u.0 named r.of u.1 in
          let here : lane (slice_index_or delta (signal c r.read) 0) k ≡ true =
          ap (λ x. lane (slice_index_or delta x 0) k) r.of ∙ differs in
          record {
            fault_free = lane_bits c good k;
            faulty = u.0;
            name = r.name;
            kind = r.kind;
            args = r.args;
            pin = pin.0;
            read = r.read;
            solves = words k lt;
            solves_faulty = u.1;
            stands = r.gate;
            number = r.number;
            at = pin.1;
            differs = λ e. turned (lane (slice_index_or good (signal c r.read) 0) k)
                (lane (slice_index_or delta (signal c r.read) 0) k) here
                (e ∙ (under_other (f k) (line.Pin g pin.0) (u.0 r.read) ((off k).pin pin.0)
                ∙ (sym is ∙ lane_xor (slice_index_or good (signal c r.read) 0)
                (slice_index_or delta (signal c r.read) 0) k)));
          }

  pub active_touched : (gates : List ℕ) → AreWords c tests group None good
      → AreInGroup tests group lanes
      → ((t k : ℕ) → t ≢ start → IsElsewhere (f k) t) → ((a b : ℕ) → Reads c a b → lv b < lv a)
      → HasActiveIn c tests group lanes f gates → HasTouched c delta gates
  active_touched gates words sized elsewhere rises all g s r ne =
      all g (touched_active g s words sized elsewhere rises r ne)

-- a first change in no lane at all: nothing is shown
pub shown_unchanged : (c : List Statement) (tests : List Test) (group : ℕ) (f : ℕ
    → Fault) (good : List ℕ) (lanes : ℕ) (delta : List ℕ) (start diff : ℕ) (settled : ℕ → Type 0)
    → IsWellFormed c → ((t : ℕ) → slice_index_or delta t 0 ≡ 0) → start < length delta → diff ≡ 0
    → IsFirstChange c tests group f good lanes delta start diff
    → AreShown c tests group f good lanes settled 0
shown_unchanged c tests group f good lanes delta start diff settled well clear within none first =
    record {
      found = λ k lt e. absurd (false≢true (sym (lane_zero k) ∙ e));
      clear = λ k lt in_lanes unseen unsettled. (
        bits_of c good (set delta start diff) k,
        balanced_solves c (λ s. Unit {0}) tests group f good lanes (set delta start diff) [] k well
            (λ s. tt) (λ s. refl) balanced lt in_lanes,
        unapart k,
      );
    }
  where
    still : (t : ℕ) → slice_index_or (set delta start diff) t 0 ≡ 0
    still t = go (cases_eq t start)
      where
        go : (t ≡ start) ⊎ (t ≢ start) → slice_index_or (set delta start diff) t 0 ≡ 0
        go (inl e) = ap (λ x. slice_index_or (set delta start diff) x 0) e
            ∙ (get_or-set_same delta start diff 0 within ∙ none)
        go (inr ne) = get_or-set_other delta start t diff 0 ne ∙ clear t

    balanced : IsBalanced c (λ s. Unit {0}) tests group f good lanes (set delta start diff) []
    balanced s k all idle lt in_lanes = go (cases_eq s start)
      where
        go : (s ≡ start) ⊎ (s ≢ start) → HasEquation c (test_of tests group k) (Some (f k))
            (bits_of c good (set delta start diff) k) s
        go (inl e) = subst (HasEquation c (test_of tests group k) (Some (f k))
            (bits_of c good (set delta start diff) k)) (sym e) (first.first k lt in_lanes)
        go (inr ne) = fault_free_holds c (λ s. Unit {0}) tests group f good lanes
            (set delta start diff) s k first.words still (first.elsewhere s k ne) lt

    unapart : (k : ℕ) → IsApart c (f k) good k (bits_of c good (set delta start diff) k) → ⊥
    unapart k a =
        a.2 (sym (under_other (f k) (branch a.0.0) (bits_of c good (set delta start diff) k a.0.1)
        (first.unobserved a.0 k a.1) ∙ lane_same (slice_index_or good (signal c a.0.1) 0) k
        (slice_index_or (set delta start diff) (signal c a.0.1) 0) (still (signal c a.0.1))))
