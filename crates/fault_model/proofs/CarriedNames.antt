-- A fault of the list is on a line that carries a name.
use Rattle.std.proofs.Common.{◌≡◌, ℕ, refl, sym, ◌∙◌, ap, List, [], ◌∷◌, inl, inr}
use Rattle.std.specs.Prelude.{Contains, option_map, Some, map, slice_get}
use Rattle.bench_net.specs.{declared.Sink.Sink, Statement.{Name, Statement, Gate, Dff}}
use Rattle.bench_net.specs.Scan.{names, name_of, cell, cells, sinks, definition}
use Rattle.bench_net.{specs.Circuit.IsWellFormed, proofs.Public.at_position}
use Rattle.bench_net.specs.declared.Sink.TheVariants as sink
use Rattle.list_lemmas.proofs.{Members.{Among, contained}, Places.{at_place, from_mapped}}
use Rattle.fault_model.proofs.{SignalsDefined.{definition-signal, cell_in}, SignalsSinks.pin_reads}
use Rattle.fault_model.proofs.SignalsOnce.{data_reads, out_reads, q_among}
use Rattle.fault_model.specs.{declared.Model.Model, Fault.{Fault, faults, branch}}
use Rattle.fault_model.specs.Detection.{name_on, argument}
use Rattle.fault_model.proofs.ListedFaults.{IsOn, listed_on, branch_among}
use Rattle.fault_model.specs.declared.Line.TheVariants as line

-- the cell whose data pin reads a name
data_carries : (c : List Statement) (i : ℕ) (n : Name) → IsWellFormed c
    → Among (sink.Data i) (sinks c n) → name_on c (line.Data i) ≡ Some n
data_carries c i n well a =
    let r = data_reads c n i a in
    let at = at_position (map (λ cell. cell.0) (cells c)) r.q (q_among c r.q n r.stands) in
    let p = from_mapped (λ cell. cell.0) (cells c) (cell c r.q) r.q at in
    let stands : Among (Dff p.0.0 p.0.1) c =
    cell_in c p.0 (at_place (cells c) (cell c r.q) p.0 p.1) in
    let one = definition-signal c (Dff r.q n) r.q well (contained c (Dff r.q n) r.stands) refl in
    let two = definition-signal c (Dff p.0.0 p.0.1) r.q well (contained c (Dff p.0.0 p.0.1) stands)
    (ap (λ x. x ∷ []) p.2) in
    let same : Some (Dff p.0.0 p.0.1) ≡ Some (Dff r.q n) = sym two ∙ one in
    let read : p.0.1 ≡ n = cc in
    ap (λ k. option_map (λ qd. qd.1) (slice_get (cells c) k)) (sym r.place)
    ∙ (ap (option_map (λ qd. qd.1)) p.1 ∙ ap Some read)

pub carries : (m : Model) (c : List Statement) (f : Fault) → IsWellFormed c
    → Contains (faults m c) f → (n : Name) × (name_on c f.line ≡ Some n) × Contains (names c) n
carries m c f well at =
    let p = listed_on m c f at in
    (p.1, go p.0 p.1 p.2 p.3, contained (names c) p.1 (at_place (names c) p.0 p.1 p.2))
  where
    by_sink : (n : Name) (k : Sink) → Among k (sinks c n) → name_on c (branch k) ≡ Some n
    by_sink n (sink.Pin g p) a =
        let r = pin_reads c n g p a in
        ap (λ s. argument (definition c s) p) (sym r.number)
        ∙ (ap (λ o. argument o p) (definition-signal c (Gate r.name r.kind r.args) r.name well
        (contained c (Gate r.name r.kind r.args) r.stands) refl) ∙ r.reads)
    by_sink n (sink.Data i) a = data_carries c i n well a
    by_sink n (sink.Out o) a = out_reads c n o a

    go : (s : ℕ) (n : Name) → name_of c s ≡ Some n → IsOn c s n f.line → name_on c f.line ≡ Some n
    go s n named (inl on) = ap (name_on c) on ∙ named
    go s n named (inr b) = ap (name_on c) b.2 ∙ by_sink n b.0 (branch_among c n b.0 b.1)
