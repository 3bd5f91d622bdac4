-- A signal whose only sink is one pin of a gate is read only by this gate.
use Rattle.std.proofs.Common.{◌≡◌, ℕ, refl, sym, ◌∙◌, ap, subst, List, [], ◌∷◌, inl, inr}
use Rattle.std.specs.{Prelude.{Contains, Option, Some, None}, Option.option_map_or}
use Rattle.bench_net.specs.{declared.Sink.Sink, Statement.{Name, Statement, Gate}}
use Rattle.bench_net.specs.{Scan.{names, name_of, signal, sinks}, Circuit.IsWellFormed}
use Rattle.bench_net.proofs.Public.{read_named, signal-name_of}
use Rattle.bench_net.specs.declared.Sink.TheVariants as sink
use Rattle.list_lemmas.proofs.{Members.{Among, among, contained}, Places.{at_place, placed}}
use Rattle.fault_model.specs.Known.{only_gate}
use Rattle.fault_model.proofs.Public.{observes, pin_among, pin_reads, signal_apart}
use Rattle.flat_circuit.specs.{Readers.{IsObserved, Reads}, Regions.{IsReadBy, PinLaw}}

one_pin : (rs : List Sink) (gate : ℕ) → only_gate rs ≡ Some gate
    → (pin : ℕ) × (rs ≡ sink.Pin gate pin ∷ [])
one_pin [] gate e = let bad : None ≡ Some gate = e in cc
one_pin (sink.Data i ∷ rs) gate e = let bad : None ≡ Some gate = e in cc
one_pin (sink.Out i ∷ rs) gate e = let bad : None ≡ Some gate = e in cc
one_pin (sink.Pin g pin ∷ r ∷ rs) gate e = let bad : None ≡ Some gate = e in cc
one_pin (sink.Pin g pin ∷ []) gate e = let it : Some g ≡ Some gate = e in
    let same : g ≡ gate = cc in (pin, ap (λ x. sink.Pin x pin ∷ []) same)

pub pin_law : (c : List Statement) → IsWellFormed c → PinLaw c
pin_law c well s g e = go (name_of c s) refl e
  where
    go : (o : Option Name) → name_of c s ≡ o → only_gate (option_map_or (sinks c) o []) ≡ Some g
        → IsReadBy c g s
    go None at e = let bad : None ≡ Some g = e in cc
    go (Some n) at e = record { reads = reads; alone = alone; unobserved = unobserved }
      where
        only : (pin : ℕ) × (sinks c n ≡ sink.Pin g pin ∷ [])
        only = one_pin (sinks c n) g e

        here : Contains (names c) n
        here = contained (names c) n (at_place (names c) s n at)

        number : signal c n ≡ s
        number = signal-name_of c s n well.once at here

        reads : Reads c g s
        reads =
            let r = pin_reads c n g only.0 (subst (λ rs. Among (sink.Pin g only.0) rs) (sym only.1)
            (inl refl)) in
            record {
              name = r.name;
              kind = r.kind;
              args = r.args;
              read = n;
              gate = contained c (Gate r.name r.kind r.args) r.stands;
              number = r.number;
              reads = contained r.args n (at_place r.args only.0 n r.reads);
              of = number;
            }

        this : (k : Sink) → Among k (sinks c n) → k ≡ sink.Pin g only.0
        this k a = one (subst (λ rs. Among k rs) only.1 a)
          where
            one : Among k (sink.Pin g only.0 ∷ []) → k ≡ sink.Pin g only.0
            one (inl is) = sym is
            one (inr bad) = absurd bad

        alone : (h : ℕ) → Reads c h s → h ≡ g
        alone h r =
            let stands = among c (Gate r.name r.kind r.args) r.gate in
            let arg = among r.args r.read r.reads in
            let same : r.read ≡ n = signal_apart c r.read n
            (read_named c (Gate r.name r.kind r.args) r.read well stands arg) here (r.of
            ∙ sym number) in
            let place = placed r.args r.read arg in
            let is = this (sink.Pin (signal c r.name) place.0)
            (pin_among c r.name n r.kind r.args place.0 stands (place.1 ∙ ap Some same)) in
            let pins : sink.Pin (signal c r.name) place.0 ≡ sink.Pin g only.0 = is in
            let gates : signal c r.name ≡ g = cc in
            sym r.number ∙ gates

        unobserved : IsObserved c s → ⊥
        unobserved o =
            let h = observes c o.0 well o.1 in
            let same : o.0.1 ≡ n = signal_apart c o.0.1 n h.named here (o.2 ∙ sym number) in
            h.no_pin g only.0 (this h.reader
            (subst (λ m. Among h.reader (sinks c m)) same h.among_sinks))
