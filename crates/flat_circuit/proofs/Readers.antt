-- The sinks of a signal that are gate pins are pins of the gates that read it.
use Rattle.std.proofs.Common.{◌≡◌, ◌<◌, ℕ, refl, sym, ◌∙◌, ap, subst, List, length, arith}
use Rattle.std.specs.Prelude.{Option, Some, unwrap_or}
use Rattle.bench_net.specs.declared.Sink.TheVariants as sink
use Rattle.bench_net.specs.{Statement.{Name, Statement, Gate}, Scan.{names, signal, name_of, sinks}}
use Rattle.bench_net.specs.Circuit.{IsWellFormed}
use Rattle.bench_net.proofs.Public.{name_of-signal, signal-name_of, read_named}
use Rattle.list_lemmas.proofs.Members.{Among, among, contained}
use Rattle.list_lemmas.proofs.Places.{at_place, placed, place_within}
use Rattle.fault_model.proofs.Public.{defined_among, signal_apart, pin_among, pin_reads}
use Rattle.flat_circuit.specs.Readers.{Reads}

module _ (c : List Statement) (well : IsWellFormed c) (s : ℕ) (n : Name)
    (named : name_of c s ≡ Some n) where
  number : signal c n ≡ s
  number = signal-name_of c s n well.once named
      (contained (names c) n (at_place (names c) s n named))

  pub sink_reads : (gate pin : ℕ) → Among (sink.Pin gate pin) (sinks c n) → Reads c gate s
  sink_reads gate pin a =
      let p = pin_reads c n gate pin a in
      record {
        name = p.name;
        kind = p.kind;
        args = p.args;
        read = n;
        gate = contained c (Gate p.name p.kind p.args) p.stands;
        number = p.number;
        reads = contained p.args n (at_place p.args pin n p.reads);
        of = number;
      }

  pub read_sink : (g : ℕ) → Reads c g s → (pin : ℕ) × Among (sink.Pin g pin) (sinks c n)
  read_sink g r =
      let a = among c (Gate r.name r.kind r.args) r.gate in
      let in_names = read_named c (Gate r.name r.kind r.args) r.read well a
      (among r.args r.read r.reads) in
      let is : Some r.read ≡ Some n = sym (name_of-signal c r.read in_names)
      ∙ (ap (name_of c) r.of ∙ named) in
      let same : r.read ≡ n = ap (λ (o : Option Name). unwrap_or o n) is in
      let p = placed r.args n (subst (λ m. Among m r.args) same (among r.args r.read r.reads)) in (
        p.0,
        subst (λ x. Among (sink.Pin x p.0) (sinks c n)) r.number
            (pin_among c r.name n r.kind r.args p.0 a p.1),
      )

pub reader_within : (c : List Statement) (g s : ℕ) → Reads c g s → g < length (names c)
reader_within c g s r =
    let a = defined_among c (Gate r.name r.kind r.args) r.name
    (among c (Gate r.name r.kind r.args) r.gate) refl in
    let lt : signal c r.name < length (names c) = place_within (names c) (signal c r.name) r.name
    (name_of-signal c r.name (contained (names c) r.name a)) in
    omega (arith, lt, r.number)

-- no gate reads itself
pub no_loop : (c : List Statement) (g : ℕ) → IsWellFormed c → Reads c g g → ⊥
no_loop c g well r =
    let gate = among c (Gate r.name r.kind r.args) r.gate in
    let own = contained (names c) r.name
    (defined_among c (Gate r.name r.kind r.args) r.name gate refl) in
    let read = read_named c (Gate r.name r.kind r.args) r.read well gate
    (among r.args r.read r.reads) in
    let same : r.name ≡ r.read = signal_apart c r.name r.read own read (r.number ∙ sym r.of) in
    let lower : well.acyclic.0 r.read < well.acyclic.0 r.name =
    well.acyclic.1 r.name r.read (r.kind, r.args, r.gate, r.reads) in
    let equal : well.acyclic.0 r.name ≡ well.acyclic.0 r.read = ap well.acyclic.0 same in
    omega (arith, lower, equal)
