-- A simulation by events of a pack: one evaluation, and what its end tells.
use Rattle.std.proofs.Common.{◌≡◌, ◌≢◌, ◌<◌, ◌≤◌, ℕ, ◌+◌, refl, sym, ◌∙◌, ap, subst, Bool, true}
use Rattle.std.proofs.Common.{false, not, ◌&&◌, ◌||◌, List, [], ◌∷◌, length, set, arith, inl, inr}
use Rattle.std.proofs.{Common.◌⊎◌, lemmas.Bool.{cases_eq, false≢true, or_cases}}
use Rattle.std.specs.Prelude.{Option, Some, None, slice_index_or, map, ◌==◌, unwrap_or}
use Rattle.bench_net.specs.Statement.{Name, Statement, Gate, Input, Output, Dff}
use Rattle.bench_net.specs.Scan.{names, signal, name_of, definition, gate_of, gate_line, sources}
use Rattle.bench_net.{specs.Circuit.IsWellFormed, proofs.Public.signal-name_of}
use Rattle.list_lemmas.proofs.Members.{Among, contained}
use Rattle.list_lemmas.proofs.Places.{at_place, within_place, place_within as listed_within}
use Rattle.fault_model.specs.declared.Line.TheVariants as line
use Rattle.fault_model.specs.{Detection.HasBit, Solution.{Test, Detects, value}}
use Rattle.fault_model.proofs.Public.{IsSource, source_definition}
use Rattle.wide_words.specs.Lanes.{IsLayout, Layout, lane_in, slot_of}
use Rattle.flat_circuit.specs.{Readers.{IsRising, Reads}, Words.{AreWords, lane, lane_bits}}
use Rattle.flat_circuit.proofs.Public.{gate_at, nothing, unlike, left_of as and_left}
use Rattle.block_sim.specs.{Events.{AreScheduled, HasEquation}, Flips.{DetectsFlip, flip}}
use Rattle.block_sim.specs.declared.propagation.Followed.{Followed}
use Rattle.block_sim.proofs.Public.{free_pins, bit_is, place_within, equation_elsewhere}
use Rattle.block_sim.proofs.Public.{gate_named_of_signal_equations as gate_named}
use Rattle.region_sim.specs.Pack.{AreGateRows, AreGateWords, AreHitIn, AreRows, IsIn, TellsPack}
use Rattle.region_sim.specs.{Pack.stem_at, declared.pack.Slot.Slot}
use Rattle.region_sim.proofs.{OneLane.{bit_cases, differing}, PackSteps.{IsStep, wide_bits}}
use Rattle.region_sim.proofs.PackLanes.{ArePropagating, Lanes, LanesMoment, evaluated, higher}
use Rattle.region_sim.proofs.PackLanes.{narrower, seen_detects, unseen_misses}
use Rattle.region_sim.proofs.PackStarts.{pack_moment, stem_bit, stem_lanes}
use Rattle.region_sim.proofs.PackWords.{differs_in, is_some, lane_some}
pub use Rattle.std.proofs.lemmas.Bool.{or_left as or_on}

twice : (a b : Bool) → unlike a (unlike a b) ≡ b
twice true true = refl
twice true false = refl
twice false b = refl

pub over : {X : Type 0} (f : ℕ → Bool) (g : X → ℕ) (xs : List X) → map (λ x. f (g x)) xs
    ≡ map f (map g xs)
over f g [] = refl
over f g (x ∷ xs) = ap (λ ys. f (g x) ∷ ys) (over f g xs)

like_on : (f g : Name → Bool) (xs : List Name) → ((x : Name) → Among x xs → f x ≡ g x)
    → map f xs ≡ map g xs
like_on f g [] same = refl
like_on f g (x ∷ xs) same = ap (λ b. b ∷ map f xs) (same x (inl refl))
    ∙ ap (λ ys. g x ∷ ys) (like_on f g xs (λ y a. same y (inr a)))

-- with more lanes that were seen
pub more_hits : (l : Layout) (slots : List Slot) (followed : List Followed) (seen all k : ℕ)
    → ((j : ℕ) → j < 512 → lane seen j ≡ true → lane all j ≡ true)
    → AreHitIn l slots followed seen k → AreHitIn l slots followed all k
more_hits l slots followed seen all k more h one own = let j = h one own in
    (j.0, j.1, j.2, j.3, j.4, more j.0 j.1 j.5)

-- a signal differs in lanes alone in which it did before or that are followed
pub stays_inside : (l : Layout) (c : List Statement) (good : ℕ → List ℕ) (kept gate source : ℕ)
    → Reads c gate source → (before waited after waits : List ℕ) (shown : ℕ)
    → IsStep l c good kept gate before waited after waits shown → (begun : ℕ → Bool)
    → ((s k : ℕ) → k < 512 → differs_in before s k ≡ true → begun k ≡ true)
    → ((k : ℕ) → k < 512 → lane kept k ≡ true → begun k ≡ true)
    → (s k : ℕ) → k < 512 → differs_in after s k ≡ true → begun k ≡ true
stays_inside l c good kept gate source r before waited after waits shown ev begun was followed s k
    lt on = go (cases_eq s gate)
  where
    go : (s ≡ gate) ⊎ (s ≢ gate) → begun k ≡ true
    go (inr ne) = was s k lt (sym (ap (λ word. lane word k) (ev.others s ne)) ∙ on)
    go (inl is) = by (or_cases (differs_in before gate k) _
        (sym (ev.here r.name r.kind r.args k r.gate r.number lt)
        ∙ (sym (ap (λ x. differs_in after x k) is) ∙ on)))
      where
        by : (differs_in before gate k ≡ true) ⊎ ((lane kept k
            && unlike (lane (slice_index_or (good (slot_of l k)) gate 0) (lane_in l k))
            (value r.kind (map (wide_bits l c good before k) r.args))) ≡ true) → begun k ≡ true
        by (inl e) = was gate k lt e
        by (inr e) = followed k lt (and_left (lane kept k) _ e)

module _ (l : Layout) (sizes : IsLayout l) (c : List Statement) (well : IsWellFormed c)
    (rising : IsRising c) (tests : List Test) (group : ℕ → ℕ) (good : ℕ → List ℕ)
    (words : AreRows c tests l group good) (slots : List Slot) where
  -- a gate that has what its kind gives for its pins has its equation
  module _ (k : ℕ) (gate source : ℕ) (r : Reads c gate source) (e : ℕ → Bool)
      (is : e gate ≡ unlike (lane (slice_index_or (good (slot_of l k)) gate 0) (lane_in l k))
      (value r.kind (map (λ n. unlike (lane (slice_index_or (good (slot_of l k)) (signal c n) 0)
      (lane_in l k)) (e (signal c n))) r.args))) where
    abbrev bit : ℕ → Bool
    bit s = unlike (lane (slice_index_or (good (slot_of l k)) s 0) (lane_in l k)) (e s)

    bits : (args : List Name) → map (λ n. bit (signal c n)) args ≡ map bit (map (signal c) args)
    bits args = over bit (signal c) args

    named : gate_of c gate ≡ Some (r.kind, map (signal c) r.args)
    named = gate_named c r.name r.kind r.args gate well r.number r.gate

    no_source : (n : Name) → signal c n ≡ gate → IsSource (definition c (signal c n)) → ⊥
    no_source n number source = go (definition c gate)
        (subst (λ s. IsSource (definition c s)) number source) named
      where
        go : (o : Option Statement) → IsSource o
            → gate_line c o ≡ Some (r.kind, map (signal c) r.args) → ⊥
        go None h g = h
        go (Some (Input m)) h g = nothing (r.kind, map (signal c) r.args) g
        go (Some (Output m)) h g = h
        go (Some (Gate m j args)) h g = h
        go (Some (Dff q d)) h g = nothing (r.kind, map (signal c) r.args) g

    pub own_equation : (t : Test)
        → HasEquation c t None (differing c (lane_bits c (good (slot_of l k)) (lane_in l k)) e) gate
    own_equation t = record {
      source = λ i n number at. absurd
          (no_source n number (source_definition c n well (at_place (sources c) i n at)));
      gate = λ n kind args number at.
          let pair : (r.kind, map (signal c) r.args) ≡ (kind, map (signal c) args) =
          ap (λ o. unwrap_or o (r.kind, map (signal c) r.args)) (sym named
          ∙ gate_named c n kind args gate well number at) in
          let v = differing c (lane_bits c (good (slot_of l k)) (lane_in l k)) e in
          ap bit number
          ∙ (ap (unlike (lane (slice_index_or (good (slot_of l k)) gate 0) (lane_in l k))) is
          ∙ (twice (lane (slice_index_or (good (slot_of l k)) gate 0) (lane_in l k)) _
          ∙ (ap (value r.kind) (bits r.args) ∙ (ap (λ p. value p.0 (map bit p.1)) pair
          ∙ (sym (ap (value kind) (bits args))
          ∙ sym (ap (value kind) (free_pins None v gate 0 args tt)))))));
    }

  -- ---- one evaluation
  module _ (before at : List ℕ) (level gate kept seen : ℕ) (taken after waits : List ℕ)
      (shown less all : ℕ)
      (h : ArePropagating c 512 (stem_lanes l sizes c well rising tests group good words slots)
      (pack_moment l sizes c well rising tests group good words slots before at level kept seen))
      (least : (other : ℕ) → slice_index_or at other 0 ≢ 0 → gate ≤ other)
      (waiting : slice_index_or at gate 0 ≢ 0) (is_taken : taken ≡ set at gate 0)
      (ev : IsStep l c good kept gate before taken after waits shown)
      (seen_now : (k : ℕ) → k < 512 → lane all k ≡ (lane seen k || lane shown k))
      (narrow : (k : ℕ) → k < 512 → lane less k ≡ true → lane kept k ≡ true) where
    abbrev lanes : Lanes c 512
    lanes = stem_lanes l sizes c well rising tests group good words slots

    abbrev moment : List ℕ → List ℕ → ℕ → ℕ → ℕ → LanesMoment
    moment = pack_moment l sizes c well rising tests group good words slots

    from_level : level ≤ gate
    from_level = h.not_below gate waiting

    here : ArePropagating c 512 lanes (moment before at gate kept seen)
    here = higher c well rising 512 lanes (moment before at level kept seen) gate from_level least h

    by : (s : ℕ) × (j : ℕ) × (j < 512) × Reads c gate s × (differs_in before s j ≡ true)
    by = h.touched gate waiting

    abbrev turns : ℕ → Bool
    turns k = unlike (lane (slice_index_or (good (slot_of l k)) gate 0) (lane_in l k))
        (value (by.3).kind (map (wide_bits l c good before k) (by.3).args))

    no_loop : (p : ℕ) → Reads c gate p → p ≢ gate
    no_loop p r e = let up = rising gate p r in omega (arith, up, e)

    valued : (k : ℕ) → k < 512 → lane kept k ≡ true → gate ≢ stem_at l slots k
        → (e : ℕ → Bool) → ((s : ℕ) → s ≢ gate → e s ≡ differs_in before s k)
        → e gate ≡ turns k → HasEquation c (lanes.test k) (Some (lanes.fault k))
        (differing c (lanes.free k) e) gate
    valued k lt on ne e same is =
        equation_elsewhere c (lanes.test k) (lanes.fault k) (differing c (lanes.free k) e) gate
        (lanes.elsewhere k gate ne) (own_equation k gate by.0 by.3 e (is
        ∙ ap (λ bs. unlike (lane (slice_index_or (good (slot_of l k)) gate 0) (lane_in l k)) (value
        (by.3).kind bs)) (like_on (wide_bits l c good before k)
        (λ n. unlike (lane (slice_index_or (good (slot_of l k)) (signal c n) 0) (lane_in l k)) (e
        (signal c n)))
        (by.3).args (λ n a. ap (unlike (lane (slice_index_or (good (slot_of l k)) (signal c n) 0)
        (lane_in l k))) (sym (same (signal c n) (no_loop (signal c n) (record {
          name = (by.3).name;
          kind = (by.3).kind;
          args = (by.3).args;
          read = n;
          gate = (by.3).gate;
          number = (by.3).number;
          reads = contained (by.3).args n a;
          of = refl;
        }))))))) (lanes.test k))

    in_at : gate < length at
    in_at = place_within at gate waiting

    pub goes_on : ArePropagating c 512 lanes (moment after waits (gate + 1) less all)
    goes_on = narrower c well rising 512 lanes (moment after waits (gate + 1) kept all)
        (lane less) narrow (evaluated c well rising 512 lanes (moment before at gate kept seen)
        (moment after waits (gate + 1) kept all) here in_at waiting refl (λ k lt. refl)
        (λ s k lt ne. ap (λ word. lane word k) (ev.others s ne)) turns
        (λ k lt. ev.here (by.3).name (by.3).kind (by.3).args k (by.3).gate (by.3).number lt) valued
        (λ s ne. ap (λ word. not (word == 0)) (ev.others s ne)) ev.stays ev.some
        (λ k lt on. is_some (slice_index_or after gate 0)
        (lane_some (slice_index_or after gate 0) k on))
        (λ was now. subst (λ a. AreScheduled c gate a waits) is_taken (ev.scheduled was now))
        (λ w. ev.same w ∙ is_taken) (lane shown) seen_now ev.found ev.seen)

  -- ---- what the end tells
  module _ (followed : List Followed) (delta at : List ℕ) (level begun kept seen : ℕ)
      (h : ArePropagating c 512 (stem_lanes l sizes c well rising tests group good words slots)
      (pack_moment l sizes c well rising tests group good words slots delta at level kept seen))
      (low_stem : (k : ℕ) → slot_of l k < length slots → stem_at l slots k < length (names c))
      (all : (k : ℕ) (one : Followed) → k < 512 → IsIn l slots followed k one → lane begun k ≡ true)
      (every : Bool) (settled : (k : ℕ) → k < 512 → lane begun k ≡ true → lane kept k ≡ false
      → (every ≡ false) × AreHitIn l slots followed seen k)
      (stop : (kept ≡ 0) ⊎ ((s : ℕ) → slice_index_or at s 0 ≡ 0)) where
    abbrev those : Lanes c 512
    those = stem_lanes l sizes c well rising tests group good words slots

    abbrev last : LanesMoment
    last = pack_moment l sizes c well rising tests group good words slots delta at level kept seen

    module _ (k : ℕ) (lt : k < 512) (low : stem_at l slots k < length (names c)) where
      name : (n : Name) × (name_of c (stem_at l slots k) ≡ Some n)
      name = within_place (names c) (stem_at l slots k) low

      among_names : Among name.0 (names c)
      among_names = at_place (names c) (stem_at l slots k) name.0 name.1

      number : signal c name.0 ≡ stem_at l slots k
      number = signal-name_of c (stem_at l slots k) name.0 well.once name.1
          (contained (names c) name.0 among_names)

      has_bit : HasBit c (those.test k) (line.Stem (stem_at l slots k))
          (stem_bit l sizes c well rising tests group good words slots k)
      has_bit = (
        lane_bits c (good (slot_of l k)) (lane_in l k),
        name.0,
        those.solves k lt,
        name.1,
        ap (λ s. lane (slice_index_or (good (slot_of l k)) s 0) (lane_in l k)) number,
      )

      pub flip_found : lane seen k ≡ true → DetectsFlip c (those.test k) (stem_at l slots k)
      flip_found on = (
        stem_bit l sizes c well rising tests group good words slots k,
        has_bit,
        seen_detects c well rising 512 those last h k lt on,
      )

      pub flip_detects : DetectsFlip c (those.test k) (stem_at l slots k)
          → Detects c (those.test k) (those.fault k)
      flip_detects d =
          let first : lane_bits c (good (slot_of l k)) (lane_in l k) name.0 ≡ d.0 =
          bit_is c well (those.test k) name.0 d.0 (lane_bits c (good (slot_of l k)) (lane_in l k))
          among_names (subst (λ x. HasBit c (those.test k) (line.Stem x) d.0) (sym number) d.1)
          (those.solves k lt) in
          let same : d.0 ≡ stem_bit l sizes c well rising tests group good words slots k =
          sym first ∙ ap (λ s. lane (slice_index_or (good (slot_of l k)) s 0) (lane_in l k))
          number in
          subst (λ b. Detects c (those.test k) (flip (stem_at l slots k) b)) same d.2

    abbrev IsLeast : ℕ → Followed → Type 0
    IsLeast k one = (j : ℕ) → j < 512 → slot_of l j ≡ slot_of l k → lane_in l j ≤ lane_in l k
        → lane one.lanes (lane_in l j) ≡ true → lane seen j ≡ false

    pub told : TellsPack every l c tests group slots followed seen
    told = record {
      found = λ k lt on slot. flip_found k lt (low_stem k slot) on;
      clear = λ k one lt own unseen least d. miss k one lt own
          (low_stem k (listed_within slots (slot_of l k) own.slot own.stands)) unseen least d
          (bit_cases (lane kept k));
    }
      where
        miss : (k : ℕ) (one : Followed) → k < 512 → IsIn l slots followed k one
            → stem_at l slots k < length (names c) → lane seen k ≡ false
            → (every ≡ true) ⊎ IsLeast k one → DetectsFlip c (those.test k) (stem_at l slots k)
            → (lane kept k ≡ true) ⊎ (lane kept k ≡ false) → ⊥
        miss k one lt own low unseen least d (inr off) = go least
          where
            left : (every ≡ false) × AreHitIn l slots followed seen k
            left = settled k lt (all k one lt own) off

            go : (every ≡ true) ⊎ IsLeast k one → ⊥
            go (inl on) = false≢true (sym left.0 ∙ on)
            go (inr none) =
                let j = left.1 one own in
                false≢true (sym (none j.0 j.1 j.2 j.3 j.4) ∙ j.5)
        miss k one lt own low unseen least d (inl on) = go stop
          where
            go : (kept ≡ 0) ⊎ ((s : ℕ) → slice_index_or at s 0 ≡ 0) → ⊥
            go (inl empty) = lane_some kept k on empty
            go (inr idle) = unseen_misses c well rising 512 those last h k lt on unseen idle
                (flip_detects k lt low d)

-- the fault-free words of a group have for each gate the bit that its kind gives
pub gate_words : (c : List Statement) (well : IsWellFormed c) (tests : List Test) (group : ℕ)
    (good : List ℕ) → AreWords c tests group None good → AreGateWords c good
gate_words c well tests group good words gate j kind pins lt is =
    let g = gate_at c gate kind pins is in
    let number : signal c g.name ≡ gate = signal-name_of c gate g.name well.once g.named
    (contained (names c) g.name (at_place (names c) gate g.name g.named)) in
    let v = lane_bits c good j in
    ap (λ s. lane (slice_index_or good s 0) j) (sym number)
    ∙ ((words j lt).gate g.name kind g.args (contained c (Gate g.name kind g.args) g.stands)
    ∙ (ap (value kind) (free_pins None v (signal c g.name) 0 g.args tt)
    ∙ (ap (value kind) (over (λ s. lane (slice_index_or good s 0) j) (signal c) g.args)
    ∙ ap (λ xs. value kind (map (λ s. lane (slice_index_or good s 0) j) xs)) g.reads)))

-- so it is in each slot
pub gate_rows : (c : List Statement) (well : IsWellFormed c) (tests : List Test) (l : Layout)
    (group : ℕ → ℕ) (good : ℕ → List ℕ) → AreRows c tests l group good → AreGateRows c l good
gate_rows c well tests l group good rows slot lt =
    gate_words c well tests (group slot) (good slot) (rows slot lt)
