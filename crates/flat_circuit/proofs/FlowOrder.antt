-- The signals in a topological order: each once, and the pins of a gate before it.
use Rattle.std.proofs.Common.{◌≡◌, ◌<◌, ◌⊎◌, ℕ, sym, ◌∙◌, subst, List, length, inl, inr}
use Rattle.std.{specs.Prelude.{Contains, slice_index_or}, proofs.lemmas.Bool.cases_order}
use Rattle.std.proofs.lemmas.List.{get_or_default, Elements.Contains-get_or}
use Rattle.bench_net.specs.{declared.Kind.Kind, Statement.{Name, Statement, Gate}}
use Rattle.bench_net.specs.{Scan.{names, signal}, Circuit.IsWellFormed}
use Rattle.bench_net.proofs.Public.{name_of-signal, read_named}
use Rattle.list_lemmas.proofs.{Members.{Among, among, contained}, Places.place_within}
use Rattle.fault_model.proofs.Public.{Spans, span_within}
use Rattle.flat_circuit.{specs.Arranged.IsFlowOrder, specs.Readers.Reads, proofs.Readers.no_loop}

flow_spans : (c : List Statement) (order : List ℕ) → IsFlowOrder c order
    → Spans (length (names c)) order
flow_spans c order h = record {
  count = h.signals.count;
  each = λ s lt. among order s (h.signals.all s lt);
}

pub flow_within : (c : List Statement) (order : List ℕ) (i : ℕ) → IsFlowOrder c order
    → i < length order → slice_index_or order i 0 < length (names c)
flow_within c order i h lt = span_within (length (names c)) order (flow_spans c order h)
    (slice_index_or order i 0) (among order (slice_index_or order i 0)
    (Contains-get_or order i 0 lt))

module _ (c : List Statement) (well : IsWellFormed c) where
  -- the signals that a gate reads come before it
  pub pins_first : (order : List ℕ) (i : ℕ) (n a : Name) (kind : Kind) (args : List Name)
      → IsFlowOrder c order → i < length order
      → slice_index_or order i 0 ≡ signal c n → Among (Gate n kind args) c → Among a args
      → (j : ℕ) × (j < i) × (slice_index_or order j 0 ≡ signal c a)
  pins_first order i n a kind args h lt at gate reads = go (cases_order place.0 i)
    where
      named : Contains (names c) a
      named = read_named c (Gate n kind args) a well gate reads

      place : Contains order (signal c a)
      place = h.signals.all (signal c a)
          (place_within (names c) (signal c a) a (name_of-signal c a named))

      there : slice_index_or order place.0 0 ≡ signal c a
      there = get_or_default order place.0 0 (signal c a) place.1 ∙ place.2

      reading : Reads c (slice_index_or order i 0) (slice_index_or order place.0 0)
      reading = record {
        name = n;
        kind = kind;
        args = args;
        read = a;
        gate = contained c (Gate n kind args) gate;
        number = sym at;
        reads = contained args a reads;
        of = sym there;
      }

      go : (place.0 ≡ i) ⊎ ((place.0 < i) ⊎ (i < place.0))
          → (j : ℕ) × (j < i) × (slice_index_or order j 0 ≡ signal c a)
      go (inr (inl before)) = (place.0, before, there)
      go (inl e) = absurd (no_loop c (slice_index_or order i 0) well
          (subst (λ j. Reads c (slice_index_or order i 0) (slice_index_or order j 0)) e reading))
      go (inr (inr after)) = absurd (h.forward i place.0 0 after place.1 reading)
