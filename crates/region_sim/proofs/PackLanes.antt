-- A simulation by events of many lanes at once, each with a test and a signal of its own that
-- starts complemented. The gates that wait are common to all lanes.
use Rattle.std.proofs.Common.{◌≡◌, ◌≢◌, ◌<◌, ◌≤◌, ℕ, ◌+◌, refl, sym, ◌∙◌, ap, subst, Bool, true}
use Rattle.std.proofs.Common.{false, ◌&&◌, ◌||◌, List, length, set, arith, inl, inr, ◌⊎◌}
use Rattle.std.specs.Prelude.{Contains, Some, None, slice_index_or, count_by}
use Rattle.std.proofs.lemmas.Bool.{cases_eq, false≢true, and_left as both_off, or_cases as or_true}
use Rattle.std.proofs.lemmas.Bool.{or_right as or_right_true, or_left as or_left_true}
use Rattle.std.proofs.lemmas.List.{get_or-set_same, get_or-set_other}
use Rattle.bench_net.specs.{declared.Sink.Sink, Statement.{Name, Statement}, Scan.observers}
use Rattle.bench_net.specs.Circuit.{IsWellFormed}
use Rattle.fault_model.specs.{Fault.{Fault, branch}, Solution.{Test, Detects, Solves}}
use Rattle.flat_circuit.specs.Readers.{IsLive, IsObserved, IsRising, Reads}
use Rattle.block_sim.specs.{Events.{AreScheduled, HasEquation, IsElsewhere}, Propagation.is_pending}
use Rattle.block_sim.proofs.Public.{pending_higher, pending_scheduled, pending_taken}
use Rattle.region_sim.proofs.{LaneEnds.{lane_detects, lane_misses}, LaneSteps.lane_evaluated}
use Rattle.region_sim.proofs.OneLane.{IsLane, bit_cases, differing, lane_higher, lane_narrower}
use Rattle.region_sim.proofs.OneLane.{self}

-- What each lane stands for: a test, a fault that starts at a signal, and the bits without it.
pub record Lanes (c : List Statement) (count : ℕ) : Type 0 where
  pub test : ℕ → Test
  pub fault : ℕ → Fault
  pub stem : ℕ → ℕ
  pub free : ℕ → Name → Bool
  pub solves : (k : ℕ) → k < count → Solves c (test k) None (free k)
  pub elsewhere : (k s : ℕ) → s ≢ stem k → IsElsewhere (fault k) s
  pub unobserved : (k : ℕ) (o : Sink × Name) → Contains (observers c) o
      → (fault k).line ≢ branch o.0
  pub own : (k : ℕ) → k < count → (d : ℕ → Bool) → d (stem k) ≡ true
      → HasEquation c (test k) (Some (fault k)) (differing c (free k) d) (stem k)

-- What a simulation has at a moment: in which lanes each signal differs; which signals have a word
-- of their own; the gates that wait; the place that it works at; the lanes that are still followed,
-- and those that were seen.
pub record LanesMoment : Type 0 where
  pub delta : ℕ → ℕ → Bool
  pub has : ℕ → Bool
  pub at : List ℕ
  pub level : ℕ
  pub kept : ℕ → Bool
  pub seen : ℕ → Bool

-- what is true at a moment
pub record ArePropagating (c : List Statement) (count : ℕ) (lanes : Lanes c count)
    (m : LanesMoment) : Type 0 where
  pub each : (k : ℕ) → k < count → IsLane c (lanes.test k) (lanes.fault k) (lanes.stem k)
      (lanes.free k) m.at m.level (m.kept k) (λ s. m.delta s k)
  pub not_below : (g : ℕ) → slice_index_or m.at g 0 ≢ 0 → m.level ≤ g
  pub live : (g : ℕ) → slice_index_or m.at g 0 ≢ 0 → IsLive c g
  pub touched : (g : ℕ) → slice_index_or m.at g 0 ≢ 0
      → (s : ℕ) × (k : ℕ) × (k < count) × Reads c g s × (m.delta s k ≡ true)
  pub held : (s k : ℕ) → k < count → m.delta s k ≡ true → m.has s ≡ true
  pub waits : (s r : ℕ) → m.level ≤ s → m.has s ≡ true → Reads c r s → IsLive c r
      → slice_index_or m.at r 0 ≢ 0
  pub unseen : (s : ℕ) → m.level ≤ s → m.has s ≡ true → IsObserved c s → ⊥
  pub found : (k : ℕ) → k < count → m.seen k ≡ true
      → (s : ℕ) × IsObserved c s × (m.delta s k ≡ true)
  pub shown : (s k : ℕ) → k < count → m.kept k ≡ true → IsObserved c s → m.delta s k ≡ true
      → m.seen k ≡ true

or_none : (a b : Bool) → b ≡ false → (a || b) ≡ a
or_none true b e = refl
or_none false b e = e

with_on : (a b : Bool) → a ≡ true → (a && b) ≡ b
with_on true b e = refl
with_on false b e = absurd (false≢true e)

joined : (a b x : Bool) → a ≡ false → b ≡ true → (a || (b && x)) ≡ x
joined true b x e on = absurd (false≢true (sym e))
joined false b x e on = with_on b x on

module _ (c : List Statement) (well : IsWellFormed c) (rising : IsRising c) (count : ℕ)
    (lanes : Lanes c count) where
  -- ---- fewer lanes are followed
  pub narrower : (m : LanesMoment) (kept : ℕ → Bool)
      → ((k : ℕ) → k < count → kept k ≡ true → m.kept k ≡ true)
      → ArePropagating c count lanes m → ArePropagating c count lanes (record {
        delta = m.delta;
        has = m.has;
        at = m.at;
        level = m.level;
        kept = kept;
        seen = m.seen;
      })
  narrower m kept within h = record {
    each = λ k lt. lane_narrower c well rising (lanes.test k) (lanes.fault k) (lanes.stem k)
        (lanes.free k) (lanes.elsewhere k) (lanes.solves k lt) m.at m.level (m.kept k) (kept k)
        (λ s. m.delta s k) (within k lt) (h.each k lt);
    not_below = h.not_below;
    live = h.live;
    touched = h.touched;
    held = h.held;
    waits = h.waits;
    unseen = h.unseen;
    found = h.found;
    shown = λ s k lt on. h.shown s k lt (within k lt on);
  }

  -- ---- no gate waits before a place
  pub higher : (m : LanesMoment) (next : ℕ) → m.level ≤ next
      → ((g : ℕ) → slice_index_or m.at g 0 ≢ 0 → next ≤ g)
      → ArePropagating c count lanes m → ArePropagating c count lanes (record {
        delta = m.delta;
        has = m.has;
        at = m.at;
        level = next;
        kept = m.kept;
        seen = m.seen;
      })
  higher m next le above h = record {
    each = λ k lt. lane_higher c well rising (lanes.test k) (lanes.fault k) (lanes.stem k)
        (lanes.free k) (lanes.elsewhere k) (lanes.solves k lt) m.at m.level next (m.kept k)
        (λ s. m.delta s k) le (h.each k lt);
    not_below = above;
    live = h.live;
    touched = h.touched;
    held = h.held;
    waits = λ s r high. h.waits s r (omega (arith, le, high));
    unseen = λ s high. h.unseen s (omega (arith, le, high));
    found = h.found;
    shown = h.shown;
  }

  -- ---- one evaluation
  -- The gate at the place that waited is taken. In the lanes that are followed it comes to differ
  -- where its word does, and where it did not differ in any lane its live readers wait from then
  -- on.
  module _ (m n : LanesMoment) (h : ArePropagating c count lanes m)
      (in_at : m.level < length m.at) (waiting : slice_index_or m.at m.level 0 ≢ 0)
      (next : n.level ≡ m.level + 1) (kept : (k : ℕ) → k < count → n.kept k ≡ m.kept k)
      (others : (s k : ℕ) → k < count → s ≢ m.level → n.delta s k ≡ m.delta s k) (x : ℕ → Bool)
      (here : (k : ℕ) → k < count → n.delta m.level k ≡ (m.delta m.level k || (m.kept k && x k)))
      (valued : (k : ℕ) → k < count → m.kept k ≡ true → m.level ≢ lanes.stem k
      → (e : ℕ → Bool) → ((s : ℕ) → s ≢ m.level → e s ≡ m.delta s k) → e m.level ≡ x k
      → HasEquation c (lanes.test k) (Some (lanes.fault k)) (differing c (lanes.free k) e) m.level)
      (has_others : (s : ℕ) → s ≢ m.level → n.has s ≡ m.has s)
      (has_stays : m.has m.level ≡ true → n.has m.level ≡ true)
      (has_new : m.has m.level ≡ false → n.has m.level ≡ true
      → (k : ℕ) × (k < count) × (n.delta m.level k ≡ true))
      (has_all : (k : ℕ) → k < count → n.delta m.level k ≡ true → n.has m.level ≡ true)
      (scheduled : m.has m.level ≡ false → n.has m.level ≡ true
      → AreScheduled c m.level (set m.at m.level 0) n.at)
      (same_at : (m.has m.level ≡ true) ⊎ (n.has m.level ≡ false) → n.at ≡ set m.at m.level 0)
      (fresh : ℕ → Bool) (seen : (k : ℕ) → k < count → n.seen k ≡ (m.seen k || fresh k))
      (fresh_found : (k : ℕ) → k < count → fresh k ≡ true
      → IsObserved c m.level × (n.delta m.level k ≡ true))
      (fresh_shown : (k : ℕ) → k < count → m.has m.level ≡ false → IsObserved c m.level
      → n.delta m.level k ≡ true → fresh k ≡ true) where
    abbrev taken : List ℕ
    taken = set m.at m.level 0

    not_taken : (s : ℕ) → slice_index_or taken s 0 ≢ 0
        → (s ≢ m.level) × (slice_index_or m.at s 0 ≢ 0)
    not_taken s ne = (other, λ e. ne (get_or-set_other m.at m.level s 0 0 other ∙ e))
      where
        other : s ≢ m.level
        other e = ne (ap (λ y. slice_index_or taken y 0) e ∙ get_or-set_same m.at m.level 0 0 in_at)

    -- whether its readers were scheduled now
    abbrev Cases : Type 0
    Cases = (AreScheduled c m.level taken n.at × (m.has m.level ≡ false)
        × (n.has m.level ≡ true)) ⊎ (n.at ≡ taken)

    cases : Cases
    cases = go (bit_cases (m.has m.level)) (bit_cases (n.has m.level))
      where
        go : (m.has m.level ≡ true) ⊎ (m.has m.level ≡ false)
            → (n.has m.level ≡ true) ⊎ (n.has m.level ≡ false) → Cases
        go (inl was) now = inr (same_at (inl was))
        go (inr was) (inl now) = inl (scheduled was now, was, now)
        go (inr was) (inr now) = inr (same_at (inr now))

    still : (s : ℕ) → slice_index_or n.at s 0 ≢ 0 → ((s ≢ m.level) × (slice_index_or m.at s 0 ≢ 0))
        ⊎ (Reads c s m.level × IsLive c s × (m.has m.level ≡ false) × (n.has m.level ≡ true))
    still s ne = go cases
      where
        go : Cases → ((s ≢ m.level) × (slice_index_or m.at s 0 ≢ 0))
            ⊎ (Reads c s m.level × IsLive c s × (m.has m.level ≡ false) × (n.has m.level ≡ true))
        go (inr same) = inl (not_taken s (λ e. ne (ap (λ a. slice_index_or a s 0) same ∙ e)))
        go (inl new) = by (new.0.only s)
          where
            by : (slice_index_or n.at s 0 ≡ slice_index_or taken s 0)
                ⊎ ((Reads c s m.level × IsLive c s) × (slice_index_or n.at s 0 ≢ 0))
                → ((s ≢ m.level) × (slice_index_or m.at s 0 ≢ 0))
                ⊎ (Reads c s m.level × IsLive c s × (m.has m.level ≡ false)
                × (n.has m.level ≡ true))
            by (inl e) = inl (not_taken s (λ z. ne (e ∙ z)))
            by (inr w) = inr (w.0.0, w.0.1, new.1, new.2)

    behind : (s : ℕ) → slice_index_or n.at s 0 ≢ 0 → m.level + 1 ≤ s
    behind s ne = go (still s ne)
      where
        go : ((s ≢ m.level) × (slice_index_or m.at s 0 ≢ 0))
            ⊎ (Reads c s m.level × IsLive c s × (m.has m.level ≡ false) × (n.has m.level ≡ true))
            → m.level + 1 ≤ s
        go (inl w) = let le = h.not_below s w.1 in let ne = w.0 in omega (arith, le, ne)
        go (inr w) = let up = rising s m.level w.0 in omega (arith, up)

    -- what waited waits still
    waited : (s : ℕ) → s ≢ m.level → slice_index_or n.at s 0 ≡ 0 → slice_index_or m.at s 0 ≡ 0
    waited s ne e = sym (get_or-set_other m.at m.level s 0 0 ne) ∙ go cases
      where
        go : Cases → slice_index_or taken s 0 ≡ 0
        go (inr same) = sym (ap (λ a. slice_index_or a s 0) same) ∙ e
        go (inl new) = by (new.0.only s)
          where
            by : (slice_index_or n.at s 0 ≡ slice_index_or taken s 0)
                ⊎ ((Reads c s m.level × IsLive c s) × (slice_index_or n.at s 0 ≢ 0))
                → slice_index_or taken s 0 ≡ 0
            by (inl is) = sym is ∙ e
            by (inr w) = absurd (w.1 e)

    stays : (s : ℕ) → s ≢ m.level → slice_index_or m.at s 0 ≢ 0 → slice_index_or n.at s 0 ≢ 0
    stays s ne some e = some (waited s ne e)

    -- the live readers of a gate that has a word of its own wait
    readers : n.has m.level ≡ true → (s : ℕ) → Reads c s m.level → IsLive c s
        → slice_index_or n.at s 0 ≢ 0
    readers now s r live = go (bit_cases (m.has m.level))
      where
        go : (m.has m.level ≡ true) ⊎ (m.has m.level ≡ false) → slice_index_or n.at s 0 ≢ 0
        go (inl was) = stays s (let up = rising s m.level r in omega (arith, up))
            (h.waits m.level s (omega arith) was r live)
        go (inr was) = (scheduled was now).readers s r live

    grown : (s k : ℕ) → k < count → m.delta s k ≡ true → n.delta s k ≡ true
    grown s k lt on = go (cases_eq s m.level)
      where
        go : (s ≡ m.level) ⊎ (s ≢ m.level) → n.delta s k ≡ true
        go (inl is) = ap (λ y. n.delta y k) is ∙ (here k lt
            ∙ or_left_true (m.delta m.level k) (m.kept k && x k)
            (sym (ap (λ y. m.delta y k) is) ∙ on))
        go (inr ne) = others s k lt ne ∙ on

    each_now : (k : ℕ) → k < count → IsLane c (lanes.test k) (lanes.fault k) (lanes.stem k)
        (lanes.free k) n.at n.level (n.kept k) (λ s. n.delta s k)
    each_now k lt =
        subst (λ l. IsLane c (lanes.test k) (lanes.fault k) (lanes.stem k) (lanes.free k) n.at l
        (n.kept k) (λ s. n.delta s k)) (sym next)
        (subst (λ b. IsLane c (lanes.test k) (lanes.fault k) (lanes.stem k) (lanes.free k) n.at
        (m.level + 1) b (λ s. n.delta s k)) (sym (kept k lt))
        (lane_evaluated c well rising (lanes.test k) (lanes.fault k) (lanes.stem k) (lanes.free k)
        (lanes.elsewhere k) (lanes.solves k lt) m.at n.at m.level by.0 (m.kept k)
        (λ s. m.delta s k) (λ s. n.delta s k) (h.each k lt) by.3 (h.live m.level waiting)
        (λ s ne. others s k lt ne) equation own quiet waited
        (λ ne. readers (has_all k lt (anew ne))) behind))
      where
        by : (s : ℕ) × (j : ℕ) × (j < count) × Reads c m.level s × (m.delta s j ≡ true)
        by = h.touched m.level waiting

        quiet : m.kept k ≡ false → n.delta m.level k ≡ m.delta m.level k
        quiet off = here k lt ∙ or_none (m.delta m.level k) (m.kept k && x k)
            (both_off (m.kept k) (x k) off)

        own : m.level ≡ lanes.stem k → n.delta m.level k ≡ m.delta m.level k
        own is = go (bit_cases (m.kept k))
          where
            go : (m.kept k ≡ true) ⊎ (m.kept k ≡ false) → n.delta m.level k ≡ m.delta m.level k
            go (inr off) = quiet off
            go (inl on) =
                let was : m.delta m.level k ≡ true =
                ap (λ y. m.delta y k) is ∙ (h.each k lt).starts on in
                here k lt ∙ (or_left_true (m.delta m.level k) (m.kept k && x k) was ∙ sym was)

        equation : m.kept k ≡ true → HasEquation c (lanes.test k) (Some (lanes.fault k))
            (differing c (lanes.free k) (λ s. n.delta s k)) m.level
        equation on = go (cases_eq m.level (lanes.stem k))
          where
            go : (m.level ≡ lanes.stem k) ⊎ (m.level ≢ lanes.stem k)
                → HasEquation c (lanes.test k) (Some (lanes.fault k))
                (differing c (lanes.free k) (λ s. n.delta s k)) m.level
            go (inl is) = subst (HasEquation c (lanes.test k) (Some (lanes.fault k))
                (differing c (lanes.free k) (λ s. n.delta s k))) (sym is)
                (lanes.own k lt (λ s. n.delta s k) (grown (lanes.stem k) k lt
                ((h.each k lt).starts on)))
            go (inr ne) = valued k lt on ne (λ s. n.delta s k) (λ s other. others s k lt other)
                (here k lt ∙ joined (m.delta m.level k) (m.kept k) (x k)
                ((h.each k lt).above_clear m.level (omega arith) ne) on)

        anew : n.delta m.level k ≢ m.delta m.level k → n.delta m.level k ≡ true
        anew ne = go (bit_cases (n.delta m.level k)) (bit_cases (m.delta m.level k))
          where
            go : (n.delta m.level k ≡ true) ⊎ (n.delta m.level k ≡ false)
                → (m.delta m.level k ≡ true) ⊎ (m.delta m.level k ≡ false)
                → n.delta m.level k ≡ true
            go (inl on) was = on
            go (inr off) (inl was) = grown m.level k lt was
            go (inr off) (inr was) = absurd (ne (off ∙ sym was))

    pub evaluated : ArePropagating c count lanes n
    evaluated = record {
      each = each_now;
      not_below = λ s ne. let le = behind s ne in omega (arith, le, next);
      live = λ s ne. live s (still s ne);
      touched = λ s ne. touched s (still s ne);
      held = λ s k lt on. held s k lt on (cases_eq s m.level);
      waits = λ s r high has reads live. waits s r (omega (arith, high, next)) has reads live;
      unseen = λ s high has o. h.unseen s (omega (arith, high, next))
          (sym (has_others s (omega (arith, high, next))) ∙ has) o;
      found = λ k lt on. found k lt (or_true (m.seen k) (fresh k) (sym (seen k lt) ∙ on));
      shown = λ s k lt on o differs. shown s k lt (sym (kept k lt) ∙ on) o differs
          (cases_eq s m.level);
    }
      where
        live : (s : ℕ) → ((s ≢ m.level) × (slice_index_or m.at s 0 ≢ 0))
            ⊎ (Reads c s m.level × IsLive c s × (m.has m.level ≡ false) × (n.has m.level ≡ true))
            → IsLive c s
        live s (inl w) = h.live s w.1
        live s (inr w) = w.1

        touched : (s : ℕ) → ((s ≢ m.level) × (slice_index_or m.at s 0 ≢ 0))
            ⊎ (Reads c s m.level × IsLive c s × (m.has m.level ≡ false) × (n.has m.level ≡ true))
            → (p : ℕ) × (k : ℕ) × (k < count) × Reads c s p × (n.delta p k ≡ true)
        touched s (inl w) = let by = h.touched s w.1 in
            (by.0, by.1, by.2, by.3, grown by.0 by.1 by.2 by.4)
        touched s (inr w) = let new = has_new w.2 w.3 in (m.level, new.0, new.1, w.0, new.2)

        held : (s k : ℕ) → k < count → n.delta s k ≡ true → (s ≡ m.level) ⊎ (s ≢ m.level)
            → n.has s ≡ true
        held s k lt on (inl is) = ap n.has is ∙ has_all k lt (sym (ap (λ y. n.delta y k) is) ∙ on)
        held s k lt on (inr ne) = has_others s ne ∙ h.held s k lt (sym (others s k lt ne) ∙ on)

        waits : (s r : ℕ) → m.level < s → n.has s ≡ true → Reads c r s → IsLive c r
            → slice_index_or n.at r 0 ≢ 0
        waits s r high has reads live =
            let up = rising r s reads in
            stays r (omega (arith, up, high))
            (h.waits s r (omega (arith, high)) (sym (has_others s (omega (arith, high))) ∙ has)
            reads live)

        found : (k : ℕ) → k < count → (m.seen k ≡ true) ⊎ (fresh k ≡ true)
            → (s : ℕ) × IsObserved c s × (n.delta s k ≡ true)
        found k lt (inl was) = let by = h.found k lt was in
            (by.0, by.1, grown by.0 k lt by.2)
        found k lt (inr new) = let by = fresh_found k lt new in (m.level, by.0, by.1)

        shown : (s k : ℕ) → k < count → m.kept k ≡ true → IsObserved c s → n.delta s k ≡ true
            → (s ≡ m.level) ⊎ (s ≢ m.level) → n.seen k ≡ true
        shown s k lt on o differs (inr ne) = seen k lt ∙ or_left_true (m.seen k) (fresh k)
            (h.shown s k lt on o (sym (others s k lt ne) ∙ differs))
        shown s k lt on o differs (inl is) = seen k lt ∙ or_right_true (m.seen k) (fresh k)
            (fresh_shown k lt (go (bit_cases (m.has m.level))) own
            (sym (ap (λ y. n.delta y k) is) ∙ differs))
          where
            own : IsObserved c m.level
            own = subst (IsObserved c) is o

            go : (m.has m.level ≡ true) ⊎ (m.has m.level ≡ false) → m.has m.level ≡ false
            go (inl was) = absurd (h.unseen m.level (omega arith) was own)
            go (inr was) = was

    -- one gate less is ahead
    pub fewer : (gates : List ℕ) → Contains gates m.level
        → count_by (is_pending self n.at n.level) gates + 1
        ≤ count_by (is_pending self m.at m.level) gates
    fewer gates listed =
        let one = pending_taken self m.at m.level m.level gates in_at refl waiting listed in
        let up = pending_higher self n.at m.level n.level gates (omega (arith, next)) in
        let as_many = go cases in
        omega (arith, one, up, as_many)
      where
        go : Cases → count_by (is_pending self n.at m.level) gates
            ≤ count_by (is_pending self taken m.level) gates
        go (inr same) = let e = ap (λ a. count_by (is_pending self a m.level) gates) same in
            omega (arith, e)
        go (inl new) = pending_scheduled c self taken n.at m.level m.level gates
            (λ r reads. rising r m.level reads) new.0

  -- ---- at any moment
  module _ (m : LanesMoment) (h : ArePropagating c count lanes m) where
    -- each lane that was seen detects its fault
    pub seen_detects : (k : ℕ) → k < count → m.seen k ≡ true
        → Detects c (lanes.test k) (lanes.fault k)
    seen_detects k lt on =
        let by = h.found k lt on in
        lane_detects c well rising (lanes.test k) (lanes.fault k) (lanes.stem k)
        (lanes.free k) (lanes.elsewhere k) (lanes.solves k lt) (lanes.unobserved k) m.at m.level
        (m.kept k) (λ s. m.delta s k) (h.each k lt) by.0 by.1 by.2

    -- where no gate waits each lane that is followed and was not seen misses it
    pub unseen_misses : (k : ℕ) → k < count → m.kept k ≡ true → m.seen k ≡ false
        → ((s : ℕ) → slice_index_or m.at s 0 ≡ 0) → Detects c (lanes.test k) (lanes.fault k) → ⊥
    unseen_misses k lt on off idle =
        lane_misses c well rising (lanes.test k) (lanes.fault k) (lanes.stem k)
        (lanes.free k) (lanes.elsewhere k) (lanes.solves k lt) (lanes.unobserved k) m.at m.level
        (m.kept k) (λ s. m.delta s k) (h.each k lt) on idle
        (λ s o. clear s o (bit_cases (m.delta s k)))
      where
        clear : (s : ℕ) → IsObserved c s → (m.delta s k ≡ true) ⊎ (m.delta s k ≡ false)
            → m.delta s k ≡ false
        clear s o (inl differs) = absurd (false≢true (sym off ∙ h.shown s k lt on o differs))
        clear s o (inr e) = e
