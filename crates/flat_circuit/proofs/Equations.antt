-- The words that the code computes satisfy the equations of their signals.
use Rattle.std.proofs.Common.{◌≡◌, ◌<◌, ◌≤◌, ℕ, ◌+◌, ◌*◌, refl, sym, ◌∙◌, ap, subst, Bool, true}
use Rattle.std.{proofs.Common.{false, List, [], ◌∷◌, length, arith, inl, inr}, specs.Int.bit_at}
use Rattle.std.specs.Prelude.{All, Contains, Option, Some, None, map, flat_map, slice_get}
use Rattle.std.specs.Prelude.{slice_index_or, unwrap_or, ◌==◌}
use Rattle.std.proofs.lemmas.List.{Elements.Contains-get_or, length-append, length-map}
use Rattle.bench_net.specs.{declared.Kind.Kind, Reading.HasArity, Scan.{cells, sources}}
use Rattle.bench_net.specs.declared.Kind.TheVariants.{And, Nand, Or, Nor, Xor, Xnor, Not, Buff}
use Rattle.bench_net.specs.Statement.{Name, Statement, Input, Output, Gate, Dff, read}
use Rattle.bench_net.specs.Scan.{names, signal, name_of, definition, gate_of, gate_line, inputs}
use Rattle.bench_net.specs.Circuit.{IsWellFormed, IsCircuit, max_sinks, sink_count}
use Rattle.bench_net.proofs.Public.{definition_defines, name_of-signal, signal-name_of, read_named}
use Rattle.list_lemmas.proofs.Members.{Among, among, contained, among_left, among_right}
use Rattle.list_lemmas.proofs.Places.{at_place, placed, place_within, within_place}
use Rattle.fault_model.specs.declared.Line.TheVariants as line
use Rattle.fault_model.specs.{Fault.Fault, Solution.{Test, value, under}}
use Rattle.fault_model.proofs.Public.{Driven, driven, IsSource, definition-signal}
use Rattle.fault_model.proofs.Public.{source_definition, source_place}
use Rattle.patterns.specs.Tests.{as_number, bit}
use Rattle.flat_circuit.specs.Words.{lane, pin_bits, IsGroupWord, IsSignalWord}
use Rattle.flat_circuit.proofs.WordsToSolutions.{pins_named}

pub nothing : {X : Type 0} (x : X) → None ≡ Some x → ⊥
nothing x e = cc

-- the gate whose signal has this number
pub record GateAt (c : List Statement) (s : ℕ) (kind : Kind) (pins : List ℕ) : Type 0 where
  pub name : Name
  pub args : List Name
  pub stands : Among (Gate name kind args) c
  pub named : name_of c s ≡ Some name
  pub reads : map (signal c) args ≡ pins

pub gate_at : (c : List Statement) (s : ℕ) (kind : Kind) (pins : List ℕ)
    → gate_of c s ≡ Some (kind, pins) → GateAt c s kind pins
gate_at c s kind pins e = go (definition c s) refl e
  where
    go : (o : Option Statement) → definition c s ≡ o → gate_line c o ≡ Some (kind, pins)
        → GateAt c s kind pins
    go None d e = absurd (nothing (kind, pins) e)
    go (Some (Input n)) d e = absurd (nothing (kind, pins) e)
    go (Some (Output n)) d e = absurd (nothing (kind, pins) e)
    go (Some (Dff q x)) d e = absurd (nothing (kind, pins) e)
    go (Some (Gate n other args)) d e =
        let p = definition_defines c s (Gate n other args) d in
        let first : n ∷ [] ≡ p.0 ∷ [] = p.1 in
        let same : p.0 ≡ n = ap (λ l. slice_index_or l 0 n) (sym first) in
        let one_kind : other ≡ kind =
        ap (λ (o : Option (Kind × List ℕ)). (unwrap_or o (kind, pins)).0) e in
        record {
          name = n;
          args = args;
          stands = subst (λ k. Among (Gate n k args) c) one_kind p.3;
          named = p.2 ∙ ap Some same;
          reads = ap (λ (o : Option (Kind × List ℕ)). (unwrap_or o (kind, pins)).1) e;
        }

-- the pins of a gate read signals of the circuit
pub among_signals : (c : List Statement) (args : List Name) (p : ℕ)
    → ((a : Name) → Among a args → Contains (names c) a) → Among p (map (signal c) args)
    → p < length (names c)
among_signals c [] p each a = absurd a
among_signals c (m ∷ args) p each (inl e) =
    let lt : signal c m < length (names c) = place_within (names c) (signal c m) m
    (name_of-signal c m (each m (inl refl))) in omega (arith, lt, e)
among_signals c (m ∷ args) p each (inr a) = among_signals c args p (λ b h. each b (inr h)) a

pub pins_within : (c : List Statement) (s : ℕ) (kind : Kind) (pins : List ℕ) → IsWellFormed c
    → gate_of c s ≡ Some (kind, pins) → All (λ p. p < length (names c)) pins
pins_within c s kind pins well e = go (gate_at c s kind pins e)
  where
    go : GateAt c s kind pins → All (λ p. p < length (names c)) pins
    go g i d lt = among_signals c g.args (slice_index_or pins i d)
        (λ a h. read_named c (Gate g.name kind g.args) a well g.stands h)
        (subst (Among (slice_index_or pins i d)) (sym g.reads)
        (among pins (slice_index_or pins i d) (Contains-get_or pins i d lt)))

-- the names that one statement reads, and all observed names, are within the limit on sinks
read_counted : (c : List Statement) (st : Statement) → Among st c → length (read st) ≤ sink_count c
read_counted [] st a = absurd a
read_counted (x ∷ c) st (inl e) =
    let whole : length (flat_map read (x ∷ c)) ≡ length (read x) + length (flat_map read c) =
    length-append (read x) (flat_map read c) in
    let same : length (read x) ≡ length (read st) = ap (λ y. length (read y)) e in
    omega (arith, whole, same)
read_counted (x ∷ c) st (inr a) =
    let whole : length (flat_map read (x ∷ c)) ≡ length (read x) + length (flat_map read c) =
    length-append (read x) (flat_map read c) in
    let h : length (read st) ≤ length (flat_map read c) = read_counted c st a in
    omega (arith, whole, h)

pub pins_few : (c : List Statement) (s : ℕ) (kind : Kind) (pins : List ℕ) → IsCircuit c
    → gate_of c s ≡ Some (kind, pins) → length pins ≤ max_sinks
pins_few c s kind pins circuit e = go (gate_at c s kind pins e)
  where
    go : GateAt c s kind pins → length pins ≤ max_sinks
    go g =
        let h : length g.args ≤ sink_count c = read_counted c (Gate g.name kind g.args) g.stands in
        let same : length pins ≡ length g.args = ap length (sym g.reads)
        ∙ length-map g.args (signal c) in
        omega (arith, h, same, circuit.sinks)

-- a gate has a pin
arity_some : (kind : Kind) (args : List Name) → HasArity kind args → 0 < length args
arity_some And args h = h
arity_some Nand args h = h
arity_some Or args h = h
arity_some Nor args h = h
arity_some Xor args h = h
arity_some Xnor args h = h
arity_some Not args h = omega (arith, h)
arity_some Buff args h = omega (arith, h)

pub pins_some : (c : List Statement) (s : ℕ) (kind : Kind) (pins : List ℕ) → IsCircuit c
    → gate_of c s ≡ Some (kind, pins) → 0 < length pins
pins_some c s kind pins circuit e = go (gate_at c s kind pins e)
  where
    go : GateAt c s kind pins → 0 < length pins
    go g =
        let h : 0 < length g.args = arity_some kind g.args
        (circuit.arities g.name kind g.args (contained c (Gate g.name kind g.args) g.stands)) in
        let same : length pins ≡ length g.args = ap length (sym g.reads)
        ∙ length-map g.args (signal c) in
        omega (arith, h, same)

module _ (c : List Statement) (s : ℕ) (well : IsWellFormed c) (within : s < length (names c)) where
  -- a signal that no gate drives is a source, at one place
  pub one_source : (i j : ℕ) → slice_get (sources c) i ≡ name_of c s
      → slice_get (sources c) j ≡ name_of c s → i ≡ j
  one_source i j p q =
      let at = within_place (names c) s within in
      sym (source_place c i at.0 well (p ∙ at.1)) ∙ source_place c j at.0 well (q ∙ at.1)

  pub source_there : gate_of c s ≡ None → (i : ℕ) × (slice_get (sources c) i ≡ name_of c s)
  source_there none = go (within_place (names c) s within)
    where
      go : (n : Name) × (slice_get (names c) s ≡ Some n)
          → (i : ℕ) × (slice_get (sources c) i ≡ name_of c s)
      go at = by (driven c at.0 (at_place (names c) s at.0 at.1))
        where
          found : Among at.0 (sources c) → (i : ℕ) × (slice_get (sources c) i ≡ name_of c s)
          found a = let p = placed (sources c) at.0 a in (p.0, p.1 ∙ sym at.1)

          by : Driven c at.0 → (i : ℕ) × (slice_get (sources c) i ≡ name_of c s)
          by (inl x) = found (among_left (inputs c) (map (λ cell. cell.0) (cells c)) at.0 x)
          by (inr (inl x)) = found (among_right (inputs c) (map (λ cell. cell.0) (cells c)) at.0 x)
          by (inr (inr x)) =
              let number : signal c at.0 ≡ s = signal-name_of c s at.0 well.once at.1
              (contained (names c) at.0 (at_place (names c) s at.0 at.1)) in
              let defined : definition c (signal c at.0) ≡ Some (Gate at.0 x.0 x.1) =
              definition-signal c (Gate at.0 x.0 x.1) at.0 well
              (contained c (Gate at.0 x.0 x.1) x.2) refl in
              let gate : gate_of c s ≡ Some (x.0, map (signal c) x.1) =
              ap (λ k. gate_of c k) (sym number) ∙ ap (gate_line c) defined in
              absurd (nothing (x.0, map (signal c) x.1) (sym none ∙ gate))

lane_number : (word k : ℕ) (b : Bool) → bit_at word k ≡ as_number b → lane word k ≡ b
lane_number word k true e = ap (λ x. x == 1) e
lane_number word k false e = ap (λ x. x == 1) e

module _ (c : List Statement) (tests : List Test) (group : ℕ) (f : Option Fault) (words : List ℕ)
    (s driven_word word : ℕ) (well : IsWellFormed c)
    (shown : (k : ℕ) → k < 128 → lane word k ≡ under f (line.Stem s) (lane driven_word k)) where
  -- the word of a source
  pub source_equation : gate_of c s ≡ None → ((i : ℕ) → slice_get (sources c) i ≡ name_of c s
      → IsGroupWord tests group i driven_word) → IsSignalWord c tests group f words s word
  source_equation none taken = record {
    source = λ i n k lt named at. shown k lt
        ∙ ap (under f (line.Stem s)) (lane_number driven_word k (bit tests (128 * group + k) i)
        (taken i (at ∙ sym named) k lt));
    gate = λ n kind args k lt number at.
        let defined : definition c (signal c n) ≡ Some (Gate n kind args) =
        definition-signal c (Gate n kind args) n well at refl in
        let gate : gate_of c s ≡ Some (kind, map (signal c) args) =
        ap (λ k. gate_of c k) (sym number) ∙ ap (gate_line c) defined in
        absurd (nothing (kind, map (signal c) args) (sym none ∙ gate));
  }

  -- the word of a gate's signal
  pub gate_equation : (kind : Kind) (pins delta : List ℕ) → ((t : ℕ) → slice_index_or delta t 0 ≡ 0)
      → gate_of c s ≡ Some (kind, pins)
      → ((k : ℕ) → k < 128 → lane driven_word k ≡ value kind (pin_bits f s pins words delta k))
      → IsSignalWord c tests group f words s word
  gate_equation kind pins delta clear e valued = record {
    source = λ i n k lt named at.
        absurd (no_source n named (source_definition c n well (at_place (sources c) i n at)));
    gate = λ n other args k lt number at.
        let defined : definition c (signal c n) ≡ Some (Gate n other args) =
        definition-signal c (Gate n other args) n well at refl in
        let gate : gate_of c s ≡ Some (other, map (signal c) args) =
        ap (λ k. gate_of c k) (sym number) ∙ ap (gate_line c) defined in
        let pair : (kind, pins) ≡ (other, map (signal c) args) = ap (λ o. unwrap_or o (kind, pins))
        (sym e ∙ gate) in
        shown k lt ∙ ap (under f (line.Stem s)) (valued k lt
        ∙ (ap (λ p. value p.0 (pin_bits f s p.1 words delta k)) pair
        ∙ ap (value other) (pins_named c f words delta s k args clear)));
  }
    where
      no_source : (n : Name) → name_of c s ≡ Some n → IsSource (definition c (signal c n)) → ⊥
      no_source n named source =
          let number : signal c n ≡ s = signal-name_of c s n well.once named
          (contained (names c) n (at_place (names c) s n named)) in
          go (definition c s) (subst (λ k. IsSource (definition c k)) number source) e
        where
          go : (o : Option Statement) → IsSource o → gate_line c o ≡ Some (kind, pins) → ⊥
          go None h g = h
          go (Some (Input m)) h g = nothing (kind, pins) g
          go (Some (Output m)) h g = h
          go (Some (Gate m k args)) h g = h
          go (Some (Dff q d)) h g = nothing (kind, pins) g
