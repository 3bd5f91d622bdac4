-- The start of a simulation by events of a pack, and what its end shows.
use Rattle.std.proofs.Common.{◌≡◌, ◌≢◌, ◌<◌, ℕ, refl, sym, ◌∙◌, ap, subst, Bool, true, false, not}
use Rattle.std.proofs.{Common.{List, length, arith}, lemmas.Bool.false≢true}
use Rattle.std.specs.Prelude.{All, Contains, Some, slice_index_or}
use Rattle.bench_net.specs.{Statement.{Name, Statement}, Scan.{names, signal}, Circuit.IsWellFormed}
use Rattle.list_lemmas.proofs.{Members.among, Places.within_place}
use Rattle.fault_model.specs.declared.Line.TheVariants as line
use Rattle.fault_model.{specs.Solution.{Test, Solves}, proofs.Public.{observes, under_own}}
use Rattle.wide_words.specs.Lanes.{IsLayout, Layout, lane_in, slot_of}
use Rattle.flat_circuit.specs.{Readers.{IsObserved, IsRising}, Words.{lane, lane_bits, test_of}}
use Rattle.flat_circuit.proofs.Public.{index_of, mapped_at, unlike}
use Rattle.block_sim.specs.{Events.{HasEquation, IsElsewhere}, Flips.flip}
use Rattle.block_sim.{specs.declared.propagation.Followed.Followed, proofs.Public.stem_stuck}
use Rattle.region_sim.specs.{Pack.{AreRows, AreStarted, stem_at}, declared.pack.Slot.Slot}
use Rattle.region_sim.proofs.OneLane.{IsLane, differing, lane_first, turned_bit}
use Rattle.region_sim.proofs.PackGates.{in_group, slot_low}
use Rattle.region_sim.proofs.PackLanes.{ArePropagating, Lanes, LanesMoment}
use Rattle.region_sim.proofs.PackWords.{differs_in, has_word, is_some, lane_some, some_is}

-- a complemented signal leaves the lines of all others
pub elsewhere_flip : (start s : ℕ) (bit : Bool) → s ≢ start → IsElsewhere (flip start bit) s
elsewhere_flip start s bit ne = record {
  stem = λ e. (let is : line.Stem start ≡ line.Stem s = e in
      let same : start ≡ s = cc in ne (sym same));
  pin = λ pin e. (let is : line.Stem start ≡ line.Pin s pin = e in cc);
}

-- the stem of a slot is a signal
pub stem_low : (l : Layout) (c : List Statement) (slots : List Slot)
    → All (λ slot. slot.stem < length (names c)) slots → (k : ℕ) → slot_of l k < length slots
    → stem_at l slots k < length (names c)
stem_low l c slots all k lt =
    let at = within_place slots (slot_of l k) lt in
    let is : stem_at l slots k ≡ (at.0).stem =
    mapped_at (λ slot. slot.stem) slots (slot_of l k) at.0 at.1 in
    let low = all (slot_of l k) at.0 lt in
    let same = ap (λ slot. slot.stem) (index_of slots (slot_of l k) at.0 at.0 at.1) in
    omega (arith, is, low, same)

module _ (l : Layout) (sizes : IsLayout l) (c : List Statement) (well : IsWellFormed c)
    (rising : IsRising c) (tests : List Test) (group : ℕ → ℕ) (good : ℕ → List ℕ)
    (words : AreRows c tests l group good) (slots : List Slot) where
  -- a complemented stem has the equation of its fault
  pub stem_equation : (t : Test) (s : ℕ) (bit : Bool) (v : Name → Bool)
      → ((n : Name) → signal c n ≡ s → v n ≡ bit) → (d : ℕ → Bool) → d s ≡ true
      → HasEquation c t (Some (flip s bit)) (differing c v d) s
  stem_equation t s bit v is d on = record {
    source = λ i n number at. turned n number ∙ sym (under_own (flip s bit) (line.Stem s) _ refl);
    gate = λ n kind args number at. turned n number
        ∙ sym (under_own (flip s bit) (line.Stem s) _ refl);
  }
    where
      turned : (n : Name) → signal c n ≡ s → differing c v d n ≡ not bit
      turned n number = ap (unlike (v n)) (ap d number ∙ on) ∙ (turned_bit (v n) ∙ ap not (is n
          number))

  abbrev pub stem_bit : ℕ → Bool
  stem_bit k = lane (slice_index_or (good (slot_of l k)) (stem_at l slots k) 0) (lane_in l k)

  -- what the lanes stand for
  abbrev pub stem_lanes : Lanes c 512
  stem_lanes = record {
    test = λ k. test_of tests (group (slot_of l k)) (lane_in l k);
    fault = λ k. flip (stem_at l slots k) (stem_bit k);
    stem = λ k. stem_at l slots k;
    free = λ k. lane_bits c (good (slot_of l k)) (lane_in l k);
    solves = λ k lt. words (slot_of l k) (slot_low l sizes k lt) (lane_in l k) (in_group l sizes k);
    elsewhere = λ k s ne. elsewhere_flip (stem_at l slots k) s (stem_bit k) ne;
    unobserved = λ k o there. (observes c o well there).no_stem (stem_at l slots k);
    own = λ k lt d on. stem_equation (test_of tests (group (slot_of l k)) (lane_in l k)) (stem_at l
        slots k) (stem_bit k) (lane_bits c (good (slot_of l k)) (lane_in l k))
        (λ n number. ap (λ s. lane (slice_index_or (good (slot_of l k)) s 0) (lane_in l k)) number)
        d on;
  }

  abbrev pub pack_moment : List ℕ → List ℕ → ℕ → ℕ → ℕ → LanesMoment
  pack_moment delta at level kept seen = record {
    delta = differs_in delta;
    has = has_word delta;
    at = at;
    level = level;
    kept = lane kept;
    seen = lane seen;
  }

  -- ---- the start
  module _ (followed : List Followed) (delta : List ℕ) (at : List ℕ) (kept seen from : ℕ)
      (h : AreStarted l c slots followed delta at kept from)
      (hidden : (slot : Slot) → Contains slots slot → IsObserved c slot.stem → ⊥)
      (none : (k : ℕ) → k < 512 → lane seen k ≡ false) where
    pub started : ArePropagating c 512 stem_lanes (pack_moment delta at from kept seen)
    started = record {
      each = λ k lt. subst (λ b. IsLane c (stem_lanes.test k) (stem_lanes.fault k)
          (stem_lanes.stem k) (stem_lanes.free k) at from b (λ s. differs_in delta s k))
          (sym (h.kept k lt))
          (lane_first c well rising (stem_lanes.test k) (stem_lanes.fault k) (stem_lanes.stem k)
          (stem_lanes.free k) (stem_lanes.elsewhere k) (stem_lanes.solves k lt) at from
          (λ s. differs_in delta s k) (λ s on. h.only s k lt on)
          (λ on r reads live. h.readers (stem_at l slots k) r
          (lane_some (slice_index_or delta (stem_at l slots k) 0) k on) reads live)
          (λ on. stem_lanes.own k lt (λ s. differs_in delta s k) on)
          (λ on n w named number solves. right k lt on n w named number solves));
      not_below = λ r ne. let by = h.waiting r ne in let le = h.least by.0 by.1 in
          let up = rising r by.0 by.2 in omega (arith, le, up);
      live = λ r ne. (h.waiting r ne).3;
      touched = λ r ne. let by = h.waiting r ne in let on = h.some by.0 by.1 in
          (by.0, on.0, on.1, by.2, on.2);
      held = λ s k lt on. is_some (slice_index_or delta s 0)
          (lane_some (slice_index_or delta s 0) k on);
      waits = λ s r high has reads live.
          h.readers s r (some_is (slice_index_or delta s 0) has) reads live;
      unseen = λ s high has o. let by = h.stems_alone s (some_is (slice_index_or delta s 0) has) in
          hidden by.0 by.1 (subst (IsObserved c) (sym by.2) o);
      found = λ k lt on. absurd (false≢true (sym (none k lt) ∙ on));
      shown = λ s k lt on o differs. (let is = h.only s k lt differs in
          let by = h.stems_alone s (lane_some (slice_index_or delta s 0) k differs) in
          absurd (hidden by.0 by.1 (subst (IsObserved c) (sym by.2) o)));
    }
      where
        right : (k : ℕ) → k < 512 → differs_in delta (stem_at l slots k) k ≡ true → (n : Name)
            (w : Name → Bool) → Contains (names c) n → signal c n ≡ stem_at l slots k
            → Solves c (test_of tests (group (slot_of l k)) (lane_in l k)) (Some (flip (stem_at l
            slots k) (stem_bit k))) w
            → differing c (lane_bits c (good (slot_of l k)) (lane_in l k)) (λ s. differs_in delta s
            k) n ≡ w n
        right k lt on n w named number solves =
            ap (unlike (lane_bits c (good (slot_of l k)) (lane_in l k) n))
            (ap (λ s. differs_in delta s k) number ∙ on)
            ∙ (turned_bit (lane_bits c (good (slot_of l k)) (lane_in l k) n)
            ∙ (ap not (ap (λ s. lane (slice_index_or (good (slot_of l k)) s 0) (lane_in l k))
            number) ∙ sym (stem_stuck c well (test_of tests (group (slot_of l k)) (lane_in l k))
            (flip (stem_at l slots k) (stem_bit k)) w n solves (among (names c) n named)
            (ap line.Stem (sym number)))))
