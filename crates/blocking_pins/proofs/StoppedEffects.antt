-- A pin blocks the effect of a fault exactly if the words of its gate say so, in each lane.
use Rattle.std.proofs.Common.{◌≡◌, ◌≢◌, ◌<◌, ℕ, zero, suc, ◌+◌, refl, sym, ◌∙◌, ap, subst, Bool}
use Rattle.std.proofs.Common.{true, false, List, [], ◌∷◌, arith, inl, inr, length, ◌⊎◌}
use Rattle.std.specs.Prelude.{Contains, None, Option, Some, bit_xor, map, option_map, slice_get}
use Rattle.std.specs.{Prelude.{slice_index_or, unwrap_or}, List.enumerate_from}
use Rattle.std.proofs.lemmas.{Bool.false≢true, Option.slice_get-map}
use Rattle.bench_net.specs.{declared.Kind.Kind, Statement.{Name, Statement, Gate}}
use Rattle.bench_net.specs.{Scan.{names, signal, gate_of, name_of}, Circuit.IsWellFormed}
use Rattle.bench_net.proofs.Public.{name_of-signal, read_named, signal-name_of}
use Rattle.list_lemmas.proofs.{Members.{Among, among, contained}, Places.at_place}
use Rattle.fault_model.specs.declared.Line.TheVariants as line
use Rattle.fault_model.specs.{Fault.Fault, Solution.{Test, Solves, pins_see, sees, under}}
use Rattle.fault_model.specs.Reordered.{HasSameSignals, IsReordered, moved_fault, place}
use Rattle.fault_model.proofs.Public.{agree, defined_among, same_signals, signal_apart, solved_same}
use Rattle.fault_model.proofs.Public.{stands_back, stands_there, under_moved, well_reordered}
use Rattle.flat_circuit.specs.Words.{AreWords, lane, lane_bits, test_of, word_over}
use Rattle.flat_circuit.proofs.Public.{gate_at, lane_xor, unlike}
use Rattle.block_sim.{specs.Events.bits_of, proofs.Public.gate_named_of_signal_equations}
use Rattle.blocking_pins.specs.{Blocking.{Blocks, controlling}, Effects.{AreFaulty, Differs, Stops}}

same_bit : (x y : Bool) → (x ≡ y) ⊎ (x ≢ y)
same_bit true true = inl refl
same_bit false false = inl refl
same_bit true false = inr (λ e. false≢true (sym e))
same_bit false true = inr (λ e. false≢true e)

-- two lists of bits of the same pins differ exactly if the bits of some pin do
differ_at : (f g : ℕ → Name → Bool) (from : ℕ) (args : List Name)
    → map (λ at. f at.0 at.1) (enumerate_from from args)
    ≢ map (λ at. g at.0 at.1) (enumerate_from from args)
    → (i : ℕ) × (a : Name) × (slice_get args i ≡ Some a) × (f (from + i) a ≢ g (from + i) a)
differ_at f g from [] ne = absurd (ne refl)
differ_at f g from (a ∷ args) ne =
    go (λ same. differ_at f g (from + 1) args (λ e. ne (rw (same, e) refl)))
    (same_bit (f from a) (g from a))
  where
    go : (f from a ≡ g from a → (i : ℕ) × (b : Name) × (slice_get args i ≡ Some b)
        × (f ((from + 1) + i) b ≢ g ((from + 1) + i) b))
        → (f from a ≡ g from a) ⊎ (f from a ≢ g from a)
        → (i : ℕ) × (b : Name) × (slice_get (a ∷ args) i ≡ Some b)
        × (f (from + i) b ≢ g (from + i) b)
    go more (inr off) = (
      0,
      a,
      refl,
      subst (λ k. f k a ≢ g k a) (let e : from ≡ from + 0 = omega arith in e) off,
    )
    go more (inl same) =
        let rest = more same in (
          suc rest.0,
          rest.1,
          rest.2,
          subst (λ k. f k rest.1 ≢ g k rest.1)
              (let e : (from + 1) + rest.0 ≡ from + suc rest.0 = omega arith in e) rest.3,
        )

same_at : (f g : ℕ → Name → Bool) (from : ℕ) (args : List Name)
    → map (λ at. f at.0 at.1) (enumerate_from from args)
    ≡ map (λ at. g at.0 at.1) (enumerate_from from args)
    → (i : ℕ) (a : Name) → slice_get args i ≡ Some a → f (from + i) a ≡ g (from + i) a
same_at f g from [] e i a at = let bad : None ≡ Some a = at in cc
same_at f g from (b ∷ args) e zero a at =
    let is : b ≡ a = ap (λ o. unwrap_or o a) at in
    let first : f from b ≡ g from b = ap (λ l. slice_index_or l 0 false) e in
    let here : from ≡ from + 0 = omega arith in
    subst (λ k. f k a ≡ g k a) here (subst (λ x. f from x ≡ g from x) is first)
same_at f g from (b ∷ args) e (suc i) a at =
    let rest : map (λ at. f at.0 at.1) (enumerate_from (from + 1) args)
    ≡ map (λ at. g at.0 at.1) (enumerate_from (from + 1) args) = cc in
    let here : (from + 1) + i ≡ from + suc i = omega arith in
    subst (λ k. f k a ≡ g k a) here (same_at f g (from + 1) args rest i a at)

differ_first : (f g : ℕ → Name → Bool) (args : List Name)
    → map (λ at. f at.0 at.1) (enumerate_from 0 args)
    ≢ map (λ at. g at.0 at.1) (enumerate_from 0 args)
    → (i : ℕ) × (a : Name) × (slice_get args i ≡ Some a) × (f i a ≢ g i a)
differ_first f g args ne =
    let r = differ_at f g 0 args ne in (
      r.0,
      r.1,
      r.2,
      subst (λ k. f k r.1 ≢ g k r.1) (let e : 0 + r.0 ≡ r.0 = omega arith in e) r.3,
    )

same_first : (f g : ℕ → Name → Bool) (args : List Name)
    → map (λ at. f at.0 at.1) (enumerate_from 0 args)
    ≡ map (λ at. g at.0 at.1) (enumerate_from 0 args)
    → (i : ℕ) (a : Name) → slice_get args i ≡ Some a → f i a ≡ g i a
same_first f g args e i a at = subst (λ k. f k a ≡ g k a)
    (let same : 0 + i ≡ i = omega arith in same) (same_at f g 0 args e i a at)

unlike_same : (a b : Bool) → a ≡ unlike a b → b ≡ false
unlike_same true true e = e
unlike_same true false e = refl
unlike_same false true e = sym e
unlike_same false false e = refl

same_unlike : (a b : Bool) → b ≡ false → unlike a b ≡ a
same_unlike true true e = absurd (false≢true (sym e))
same_unlike true false e = refl
same_unlike false true e = absurd (false≢true (sym e))
same_unlike false false e = refl

module _ (c d : List Statement) (well : IsWellFormed c) (is : IsReordered c d)
    (tests : List Test) (group : ℕ) (f : Fault) (good delta : List ℕ) (lanes : ℕ)
    (words : AreWords d tests group None good)
    (faulty : AreFaulty d (moved_fault c d f) good lanes delta) (k : ℕ) (lt : k < 128)
    (on : lane lanes k ≡ true) where
  signals : HasSameSignals c d
  signals = same_signals c d well is

  well_there : IsWellFormed d
  well_there = well_reordered c d is.statements well

  abbrev pub t : Test
  t = test_of tests group k

  abbrev pub free : Name → Bool
  free = lane_bits d good k

  abbrev pub wrong : Name → Bool
  wrong = bits_of d good delta k

  solves_free : Solves c t None free
  solves_free = (solved_same c d well is t None free).1 (words k lt)

  solves_wrong : Solves c t (Some f) wrong
  solves_wrong = (solved_same c d well is t (Some f) wrong).1 (faulty tests group words k lt on)

  -- what a pin sees
  seen_there : (gate pin : ℕ) (b : Bool)
      → under (Some (moved_fault c d f)) (line.Pin (place c d gate) pin) b
      ≡ under (Some f) (line.Pin gate pin) b
  seen_there gate pin b = under_moved c d well is (Some f) (line.Pin gate pin) b

  wrong_word : (n : Name) → wrong n ≡ unlike (free n) (lane (slice_index_or delta (signal d n) 0) k)
  wrong_word n = lane_xor (slice_index_or good (signal d n) 0)
      (slice_index_or delta (signal d n) 0) k

  module _ (gate pin : ℕ) where
    pub stops_there : Blocks c t f gate pin
        → Stops d (moved_fault c d f) good delta (place c d gate) pin k
    stops_there b = record {
      kind = b.kind;
      pins = map (signal d) b.args;
      read = signal d b.read;
      bit = b.bit;
      driven = gate_named_of_signal_equations d b.name b.kind b.args (place c d gate) well_there
          (sym (numbered b.name named) ∙ ap (place c d) b.number)
          (stands_there c d well is (Gate b.name b.kind b.args) b.stands);
      controls = b.controls;
      at = slice_get-map (signal d) b.args pin ∙ ap (option_map (signal d)) b.at;
      same = same;
      enters = enters;
      free_bit = sym (v_is b.read (read_in b.read (at_place b.args pin b.read b.at))) ∙ b.free_bit;
      faulty_bit = seen_there gate pin (wrong b.read) ∙ (ap (under (Some f) (line.Pin gate pin))
          (sym (w_is b.read (read_in b.read (at_place b.args pin b.read b.at)))) ∙ b.faulty_bit);
    }
      where
        named : Contains (names c) b.name
        named = contained (names c) b.name (defined_among c (Gate b.name b.kind b.args) b.name
            (among c (Gate b.name b.kind b.args) b.stands) refl)

        numbered : (n : Name) → Contains (names c) n → place c d (signal c n) ≡ signal d n
        numbered n at = sym (signals.numbered n at)

        v_is : (n : Name) → Contains (names c) n → b.fault_free n ≡ free n
        v_is n at = agree c t None b.fault_free free well b.solves solves_free n at

        w_is : (n : Name) → Contains (names c) n → b.faulty n ≡ wrong n
        w_is n at = agree c t (Some f) b.faulty wrong well b.solves_faulty solves_wrong n at

        read_in : (a : Name) → Among a b.args → Contains (names c) a
        read_in a h = read_named c (Gate b.name b.kind b.args) a well
            (among c (Gate b.name b.kind b.args) b.stands) h

        same : lane (slice_index_or delta (place c d gate) 0) k ≡ false
        same =
            let here : place c d gate ≡ signal d b.name =
            sym (ap (place c d) b.number) ∙ numbered b.name named in
            ap (λ s. lane (slice_index_or delta s 0) k) here
            ∙ unlike_same (free b.name) (lane (slice_index_or delta (signal d b.name) 0) k)
            (sym (v_is b.name named) ∙ (b.same ∙ (w_is b.name named ∙ wrong_word b.name)))

        enters : Differs (moved_fault c d f) good delta (place c d gate) (map (signal d) b.args) k
        enters =
            let at = differ_first (λ i a. sees None b.fault_free (line.Pin gate i) a)
            (λ i a. sees (Some f) b.faulty (line.Pin gate i) a) b.args b.enters in
            let in_names = read_in at.1 (at_place b.args at.0 at.1 at.2) in (
              at.0,
              signal d at.1,
              slice_get-map (signal d) b.args at.0 ∙ ap (option_map (signal d)) at.2,
              λ e. at.3 (v_is at.1 in_names ∙ (e ∙ (seen_there gate at.0 (wrong at.1)
                  ∙ ap (under (Some f) (line.Pin gate at.0)) (sym (w_is at.1 in_names))))),
            )

  module _ (gate pin : ℕ) (s : Stops d (moved_fault c d f) good delta (place c d gate) pin k)
      (name : Name) (args : List Name) (stands_d : Among (Gate name s.kind args) d)
      (named_d : name_of d (place c d gate) ≡ Some name) (reads : map (signal d) args ≡ s.pins)
    where
      stands : Contains c (Gate name s.kind args)
      stands = stands_back c d well is (Gate name s.kind args)
          (contained d (Gate name s.kind args) stands_d)

      named : Contains (names c) name
      named = contained (names c) name (defined_among c (Gate name s.kind args)
          name (among c (Gate name s.kind args) stands) refl)

      own_number : signal d name ≡ place c d gate
      own_number = signal-name_of d (place c d gate) name well_there.once named_d
          (contained (names d) name (at_place (names d) (place c d gate) name named_d))

      number : signal c name ≡ gate
      number = signals.apart (signal c name) gate (sym (signals.numbered name named) ∙ own_number)

      -- the name that a pin reads
      mapped_at : (xs : List Name) (i x : ℕ) → slice_get (map (signal d) xs) i ≡ Some x
          → (a : Name) × (slice_get xs i ≡ Some a) × (signal d a ≡ x)
      mapped_at [] i x e = let bad : None ≡ Some x = e in cc
      mapped_at (a ∷ xs) zero x e = (a, refl, ap (λ o. unwrap_or o x) e)
      mapped_at (a ∷ xs) (suc i) x e = mapped_at xs i x e

      read_at : (i x : ℕ) → slice_get s.pins i ≡ Some x
          → (a : Name) × (slice_get args i ≡ Some a) × (signal d a ≡ x)
      read_at i x at = mapped_at args i x (ap (λ l. slice_get l i) reads ∙ at)

      same : free name ≡ wrong name
      same = sym (wrong_word name ∙ same_unlike (free name)
          (lane (slice_index_or delta (signal d name) 0) k)
          (ap (λ x. lane (slice_index_or delta x 0) k) own_number ∙ s.same))

      enters : pins_see None free gate args ≢ pins_see (Some f) wrong gate args
      enters e =
          let at = read_at s.enters.0 s.enters.1 s.enters.2 in
          let alike = same_first (λ i a. sees None free (line.Pin gate i) a)
          (λ i a. sees (Some f) wrong (line.Pin gate i) a) args e s.enters.0 at.0 at.1 in
          s.enters.3 (ap (λ x. lane (slice_index_or good x 0) k) (sym at.2)
          ∙ (alike ∙ (sym (seen_there gate s.enters.0 (wrong at.0))
          ∙ ap (λ x. under (Some (moved_fault c d f)) (line.Pin (place c d gate) s.enters.0)
          (lane (word_over good delta x) k)) at.2)))

      stops_by : Blocks c t f gate pin
      stops_by =
          let read = read_at pin s.read s.at in
          record {
            fault_free = free;
            faulty = wrong;
            name = name;
            kind = s.kind;
            args = args;
            read = read.0;
            bit = s.bit;
            solves = solves_free;
            solves_faulty = solves_wrong;
            stands = stands;
            number = number;
            same = same;
            enters = enters;
            at = read.1;
            controls = s.controls;
            free_bit = ap (λ x. lane (slice_index_or good x 0) k) read.2 ∙ s.free_bit;
            faulty_bit =
                ap (λ x. under (Some f) (line.Pin gate pin) (lane (word_over good delta x) k))
                read.2 ∙ (sym (seen_there gate pin (lane (word_over good delta s.read) k))
                ∙ s.faulty_bit);
          }

  pub stops_back : (gate pin : ℕ)
      → Stops d (moved_fault c d f) good delta (place c d gate) pin k → Blocks c t f gate pin
  stops_back gate pin s =
      let own = gate_at d (place c d gate) s.kind s.pins s.driven in
      stops_by gate pin s own.name own.args own.stands own.named own.reads
