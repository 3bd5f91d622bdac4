-- Statements in another order: the same readers.
use Rattle.std.proofs.Common.{◌≡◌, ℕ, refl, sym, ◌∙◌, ap, subst, List}
use Rattle.std.specs.Prelude.{Contains, option_map}
use Rattle.bench_net.specs.{Statement.{Statement, Gate}, Scan.{names, signal, observers}}
use Rattle.bench_net.{specs.Circuit.IsWellFormed, proofs.Public.read_named}
use Rattle.list_lemmas.proofs.Members.{among, contained}
use Rattle.fault_model.specs.declared.Line.TheVariants as line
use Rattle.fault_model.specs.Reordered.{IsReordered, place, HasSameSignals, HasSameSinks}
use Rattle.fault_model.proofs.Public.{same_signals, same_sinks, stands_there, stands_back}
use Rattle.fault_model.proofs.Public.{defined_among, observes}
use Rattle.flat_circuit.specs.Readers.{Reads, IsObserved, IsLive, observed, through}
use Rattle.flat_circuit.specs.{Regions.lone_reader, Reordered.HasSameReaders}

module _ (c d : List Statement) (well : IsWellFormed c) (is : IsReordered c d) where
  signals : HasSameSignals c d
  signals = same_signals c d well is

  sinks : HasSameSinks c d
  sinks = same_sinks c d well is

  -- ---- readers

  module _ (g s : ℕ) (r : Reads c g s) where
    known : Contains (names c) r.name
    known = contained (names c) r.name (defined_among c (Gate r.name r.kind r.args) r.name
        (among c (Gate r.name r.kind r.args) r.gate) refl)

    read_known : Contains (names c) r.read
    read_known = read_named c (Gate r.name r.kind r.args) r.read well
        (among c (Gate r.name r.kind r.args) r.gate) (among r.args r.read r.reads)

    reads_there : Reads d (place c d g) (place c d s)
    reads_there = record {
      name = r.name;
      kind = r.kind;
      args = r.args;
      read = r.read;
      gate = stands_there c d well is (Gate r.name r.kind r.args) r.gate;
      number = signals.numbered r.name known ∙ ap (place c d) r.number;
      reads = r.reads;
      of = signals.numbered r.read read_known ∙ ap (place c d) r.of;
    }

  reads_here : (g s : ℕ) (r : Reads d g s) → Reads c (signal c r.name) (signal c r.read)
  reads_here g s r = record {
    name = r.name;
    kind = r.kind;
    args = r.args;
    read = r.read;
    gate = stands_back c d well is (Gate r.name r.kind r.args) r.gate;
    number = refl;
    reads = r.reads;
    of = refl;
  }

  pub reads_back : (g s : ℕ) → Reads d g (place c d s) → (h : ℕ) × (g ≡ place c d h) × Reads c h s
  unfolding reads_here
  reads_back g s r =
      let own = reads_here g (place c d s) r in
      let number : place c d (signal c r.name) ≡ g =
      sym (signals.numbered r.name (known (signal c r.name) (signal c r.read) own)) ∙ r.number in
      let of : place c d (signal c r.read) ≡ place c d s =
      sym (signals.numbered r.read (read_known (signal c r.name) (signal c r.read) own)) ∙ r.of in (
        signal c r.name,
        sym number,
        subst (Reads c (signal c r.name)) (signals.apart (signal c r.read) s of) own,
      )

  -- ---- observers

  same_observers : observers d ≡ observers c
  same_observers = rw (is.same_outputs, is.same_cells) refl

  observed_there : (s : ℕ) → IsObserved c s → IsObserved d (place c d s)
  observed_there s h = (
    h.0,
    subst (λ os. Contains os h.0) (sym same_observers) h.1,
    signals.numbered h.0.1 (observes c h.0 well h.1).named ∙ ap (place c d) h.2,
  )

  observed_back : (s : ℕ) → IsObserved d (place c d s) → IsObserved c s
  observed_back s h =
      let at = subst (λ os. Contains os h.0) same_observers h.1 in (
        h.0,
        at,
        signals.apart (signal c h.0.1) s
            (sym (signals.numbered h.0.1 (observes c h.0 well at).named) ∙ h.2),
      )

  live_there : (s : ℕ) → IsLive c s → IsLive d (place c d s)
  live_there s (observed h) = observed (observed_there s h)
  live_there s (through {g = g} r l) = through (reads_there g s r) (live_there g l)

  live_back : (q : ℕ) → IsLive d q → (s : ℕ) → q ≡ place c d s → IsLive c s
  live_back q (observed h) s e = observed (observed_back s (subst (IsObserved d) e h))
  live_back q (through {g = g} r l) s e =
      let own = reads_back g s (subst (Reads d g) e r) in
      through own.2 (live_back g l own.0 own.1)

  lone : (s : ℕ) → lone_reader d (place c d s) ≡ option_map (place c d) (lone_reader c s)
  lone s = sinks.alone (line.Stem s)

  pub same_readers : HasSameReaders c d
  same_readers = record {
    reads = reads_there;
    reads_back = reads_back;
    observed = λ s. (observed_there s, observed_back s);
    live = λ s. (live_there s, λ l. live_back (place c d s) l s refl);
    lone = lone;
  }
