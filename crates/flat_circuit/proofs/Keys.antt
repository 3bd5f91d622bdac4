-- Keys of signals: the condition of a gate's line on its key, and a pass in level order that gives
-- each signal a key.
use Rattle.std.proofs.Common.{◌≡◌, ◌≢◌, ◌<◌, ◌≤◌, ℕ, ◌+◌, refl, sym, ◌∙◌, ap, subst, List, map}
use Rattle.std.proofs.{Common.{length, set, arith, inl, inr, ◌⊎◌}, lemmas.Bool.cases_lt}
use Rattle.std.specs.Prelude.{Contains, Option, Some, None, slice_index_or, unwrap_or}
use Rattle.std.proofs.lemmas.List.{get_or_default, get_or-set_other, get_or-set_same}
use Rattle.bench_net.specs.{declared.Kind.Kind, Statement.{Statement, Input, Output, Gate, Dff}}
use Rattle.bench_net.specs.Scan.{names, signal, sources, definition, gate_line, gate_of}
use Rattle.bench_net.specs.{Circuit.IsWellFormed, Level.{GoesBefore, HasLevel, IsLevelOrder}}
use Rattle.bench_net.proofs.Public.{signal-name_of}
use Rattle.list_lemmas.proofs.{Members.{among, among_map, contained}, Places.at_place}
use Rattle.fault_model.specs.Reordered.{IsSourceAt}
use Rattle.fault_model.proofs.Public.{IsSource, definition-signal, source_definition}
use Rattle.flat_circuit.specs.{Readers.Reads, SignalOrder.{HaveKeys, IsKeyOf}}
use Rattle.flat_circuit.proofs.{Equations.nothing, LevelOrder.order_within, LevelsRise.level_is}
use Rattle.flat_circuit.proofs.{Readers.no_loop, Stems.behind}

module _ (c : List Statement) (s : ℕ) (well : IsWellFormed c) where
  -- a gate that reads a signal has a line with its number among the pins
  read_line : (t : ℕ) → Reads c s t → (kind : Kind) × (pins : List ℕ)
      × (gate_of c s ≡ Some (kind, pins)) × Contains pins t
  read_line t r =
      let defined : definition c (signal c r.name) ≡ Some (Gate r.name r.kind r.args) =
      definition-signal c (Gate r.name r.kind r.args) r.name well r.gate refl in
      let pins = map (signal c) r.args in
      let read = among_map (signal c) r.args r.read (among r.args r.read r.reads) in (
        r.kind,
        pins,
        ap (λ k. gate_of c k) (sym r.number) ∙ ap (gate_line c) defined,
        subst (Contains pins) r.of (contained pins (signal c r.read) read),
      )

  -- no source has a line
  source_line : (kind : Kind) (pins : List ℕ) → gate_of c s ≡ Some (kind, pins) → IsSourceAt c s → ⊥
  source_line kind pins line is =
      let n = is.0 in
      let number : signal c n ≡ s = signal-name_of c s n well.once is.1
      (contained (names c) n (at_place (names c) s n is.1)) in
      go (definition c s) (subst (λ k. IsSource (definition c k)) number
      (source_definition c n well (among (sources c) n is.2))) line
    where
      go : (o : Option Statement) → IsSource o → gate_line c o ≡ Some (kind, pins) → ⊥
      go None h e = h
      go (Some (Input m)) h e = nothing (kind, pins) e
      go (Some (Output m)) h e = h
      go (Some (Gate m k args)) h e = h
      go (Some (Dff q d)) h e = nothing (kind, pins) e

  -- the key of a source, and the key of a gate
  pub source_key : (keys : List ℕ) → gate_of c s ≡ None → IsKeyOf c keys s 0
  source_key keys none = record {
    source = λ is. refl;
    gate = λ t r. let p = read_line t r in absurd (nothing (p.0, p.1) (sym none ∙ p.2));
  }

  pub gate_key : (keys : List ℕ) (key : ℕ) (kind : Kind) (pins : List ℕ)
      → gate_of c s ≡ Some (kind, pins)
      → ((pin : ℕ) → Contains pins pin → slice_index_or keys pin 0 < key) → IsKeyOf c keys s key
  gate_key keys key kind pins line above = record {
    source = λ is. absurd (source_line kind pins line is);
    gate = λ t r.
        let p = read_line t r in
        let same : Some (p.0, p.1) ≡ Some (kind, pins) = sym p.2 ∙ line in
        let one : p.1 ≡ pins =
        ap (λ (o : Option (Kind × List ℕ)). (unwrap_or o (kind, pins)).1) same in
        above t (subst (λ xs. Contains xs t) one p.3);
  }

-- the first signals of an order have their keys
abbrev pub HaveFirstKeys : List Statement → List ℕ → List ℕ → ℕ → Type 0
HaveFirstKeys c order keys i = (j : ℕ) → j < i
    → IsKeyOf c keys (slice_index_or order j 0) (slice_index_or keys (slice_index_or order j 0) 0)

module _ (c : List Statement) (well : IsWellFormed c) (order : List ℕ) (is : IsLevelOrder c order)
  where
    -- a signal stands once in the order
    not_itself : (s : ℕ) → GoesBefore c s s → ⊥
    not_itself s before = go before.0 before.1 before.2 before.3 before.4
      where
        go : (j k : ℕ) → HasLevel c s j → HasLevel c s k → (j < k) ⊎ ((j ≡ k) × (s < s)) → ⊥
        go j k low high or =
            let one = level_is c low.0 s j well low.2 low in
            let two = level_is c low.0 s k well low.2 high in
            by (sym one ∙ two) or
          where
            by : j ≡ k → (j < k) ⊎ ((j ≡ k) × (s < s)) → ⊥
            by same (inl lt) = omega (arith, same, lt)
            by same (inr e) = omega (arith, e.1)

    apart : (j i : ℕ) → j < i → i < length order → slice_index_or order j 0
        ≢ slice_index_or order i 0
    apart j i lt within same = not_itself (slice_index_or order i 0)
        (subst (λ s. GoesBefore c s (slice_index_or order i 0)) same (is.ordered j i 0 lt within))

    -- a key stays one if the key of a signal is written that the gate doesn't read
    kept : (keys : List ℕ) (s new g key : ℕ) → (Reads c g s → ⊥) → IsKeyOf c keys g key
        → IsKeyOf c (set keys s new) g key
    kept keys s new g key unread h = record {
      source = h.source;
      gate = λ t r. subst (λ k. k < key)
          (sym (get_or-set_other keys s t new 0 (λ same. unread (subst (Reads c g) same r))))
          (h.gate t r);
    }

    -- one signal more
    pub keys_more : (keys : List ℕ) (i key : ℕ) → i < length order
        → length keys ≡ length (names c) → HaveFirstKeys c order keys i
        → IsKeyOf c keys (slice_index_or order i 0) key
        → HaveFirstKeys c order (set keys (slice_index_or order i 0) key) (i + 1)
    keys_more keys i key lt room first own j within = go (cases_lt j i)
      where
        s : ℕ
        s = slice_index_or order i 0

        after : List ℕ
        after = set keys s key

        inside : s < length keys
        inside = let h = order_within c order i is lt in omega (arith, h, room)

        go : (j < i) ⊎ (i ≤ j) → IsKeyOf c after (slice_index_or order j 0)
            (slice_index_or after (slice_index_or order j 0) 0)
        go (inl before) =
            let g = slice_index_or order j 0 in
            let old : slice_index_or after g 0 ≡ slice_index_or keys g 0 =
            get_or-set_other keys s g key 0 (apart j i before lt) in
            subst (IsKeyOf c after g) (sym old) (kept keys s key g (slice_index_or keys g 0) (λ r.
            let later = behind c well order is i j g lt (omega (arith, before, lt)) refl r in
            omega (arith, later, before)) (first j before))
        go (inr from) =
            let same : i ≡ j = omega (arith, from, within) in
            let here : IsKeyOf c after s (slice_index_or after s 0) =
            subst (IsKeyOf c after s) (sym (get_or-set_same keys s key 0 inside))
            (kept keys s key s key (no_loop c s well) own) in
            subst (λ m. IsKeyOf c after (slice_index_or order m 0)
            (slice_index_or after (slice_index_or order m 0) 0)) same here

    -- all signals
    pub keys_all : (keys : List ℕ) (i : ℕ) → length order ≤ i → HaveFirstKeys c order keys i
        → HaveKeys c keys
    keys_all keys i le first s lt =
        let at = is.all s lt in
        let there : slice_index_or order at.0 0 ≡ s = get_or_default order at.0 0 s at.1 ∙ at.2 in
        subst (λ m. IsKeyOf c keys m (slice_index_or keys m 0)) there
        (first at.0 (omega (arith, at.1, le)))
