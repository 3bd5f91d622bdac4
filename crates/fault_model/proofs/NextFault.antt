-- The next fault, in the steps by which it is found.
use Rattle.std.proofs.Common.{◌≡◌, ◌<◌, ℕ, refl, sym, ◌∙◌, ap, subst, Bool, List, [], ◌∷◌, length}
use Rattle.std.{proofs.Common.{inl, inr}, specs.Prelude.IfSome, specs.Option.option_map_or}
use Rattle.std.specs.Prelude.{Contains, Option, Some, None, slice_get, option_map, option_and_then}
use Rattle.bench_net.specs.{declared.Kind.Kind, declared.Sink.Sink, Scan.{names, name_of, sinks}}
use Rattle.bench_net.{specs.Statement.{Name, Statement, Gate}, proofs.Public.name_of-signal}
use Rattle.bench_net.specs.declared.Sink.TheVariants as sink
use Rattle.list_lemmas.proofs.Members.{Among, contained}
use Rattle.list_lemmas.proofs.Places.{at_place, place_within, within_place}
use Rattle.fault_model.proofs.{SignalsDefined.defined_among, SignalsSinks.{PinReads, pin_reads}}
use Rattle.fault_model.specs.declared.{Line.Line, Model.Model}
use Rattle.fault_model.specs.{Fault.{Fault, branch, faults}, Known.{only_gate, IsInCircuit}}
use Rattle.fault_model.specs.Collapse.{next, next_over, next_stuck, readers, kind_of}
use Rattle.fault_model.proofs.ListedFaults.{fault_on, IsOn, listed_on, listed_model, branch_among}
use Rattle.fault_model.proofs.ListedFaults.{branch_read}
use Rattle.fault_model.specs.declared.Line.TheVariants as line

-- the fault on the stem of a gate that the table gives for this kind and bit
abbrev pub by_table : Model → ℕ → Bool → Option Kind → Option Fault
by_table m gate stuck kind = option_map (λ b. fault_on m (line.Stem gate) b)
    (option_and_then (λ k. next_stuck m k stuck) kind)

next_over_is : (c : List Statement) (m : Model) (stuck : Bool) (rs : List Sink)
    → next_over c m stuck rs
    ≡ option_and_then (λ gate. by_table m gate stuck (kind_of c gate)) (only_gate rs)
next_over_is c m stuck [] = refl
next_over_is c m stuck (sink.Data i ∷ rs) = refl
next_over_is c m stuck (sink.Out i ∷ rs) = refl
next_over_is c m stuck (sink.Pin gate pin ∷ r ∷ rs) = refl
next_over_is c m stuck (sink.Pin gate pin ∷ []) = refl

next_is : (c : List Statement) (f : Fault) → next c f
    ≡ option_and_then (λ gate. by_table f.model gate f.stuck (kind_of c gate))
    (only_gate (readers c f.line))
next_is c f = next_over_is c f.model f.stuck (readers c f.line)

pub next_at_gate : (c : List Statement) (f : Fault) (gate : ℕ)
    → only_gate (readers c f.line) ≡ Some gate
    → next c f ≡ by_table f.model gate f.stuck (kind_of c gate)
next_at_gate c f gate e =
    next_is c f ∙ ap (option_and_then (λ g. by_table f.model g f.stuck (kind_of c g))) e

-- a line of the list is one of the circuit
pub listed_in_circuit : (m : Model) (c : List Statement) (f : Fault) → Contains (faults m c) f
    → IsInCircuit c f.line
listed_in_circuit m c f at = let p = listed_on m c f at in go p.0 p.1 p.2 p.3
  where
    of_branch : (k : Sink) → IsInCircuit c (branch k)
    of_branch (sink.Pin g p) = tt
    of_branch (sink.Data i) = tt
    of_branch (sink.Out i) = tt

    go : (s : ℕ) (n : Name) → name_of c s ≡ Some n → IsOn c s n f.line → IsInCircuit c f.line
    go s n named (inl on) = rw on (place_within (names c) s n named)
    go s n named (inr b) = rw b.2 (of_branch b.0)

one_reader : (rs : List Sink) (gate : ℕ) → only_gate rs ≡ Some gate
    → (pin : ℕ) × (rs ≡ sink.Pin gate pin ∷ [])
one_reader [] gate e = let bad : None ≡ Some gate = e in cc
one_reader (sink.Data i ∷ rs) gate e = let bad : None ≡ Some gate = e in cc
one_reader (sink.Out i ∷ rs) gate e = let bad : None ≡ Some gate = e in cc
one_reader (sink.Pin g pin ∷ r ∷ rs) gate e = let bad : None ≡ Some gate = e in cc
one_reader (sink.Pin g pin ∷ []) gate e =
    let it : Some g ≡ Some gate = e in
    let same : g ≡ gate = cc in
    (pin, ap (λ x. sink.Pin x pin ∷ []) same)

-- the gate that is the only reader of a line of the list is a signal
pub gate_is_signal : (m : Model) (c : List Statement) (f : Fault) (gate : ℕ)
    → Contains (faults m c) f → only_gate (readers c f.line) ≡ Some gate
    → (n : Name) × (name_of c gate ≡ Some n)
gate_is_signal m c f gate at e =
    let p = listed_on m c f at in
    let r = one_reader (readers c f.line) gate e in
    go p.0 p.1 p.2 p.3 r.0 r.1
  where
    read : (n : Name) (pin : ℕ) → PinReads c n gate pin → (m : Name) × (name_of c gate ≡ Some m)
    read n pin r =
        let named = name_of-signal c r.name (contained (names c) r.name
        (defined_among c (Gate r.name r.kind r.args) r.name r.stands refl)) in
        (r.name, subst (λ k. name_of c k ≡ Some r.name) r.number named)

    go : (s : ℕ) (n : Name) → name_of c s ≡ Some n → IsOn c s n f.line → (pin : ℕ)
        → readers c f.line ≡ sink.Pin gate pin ∷ [] → (m : Name) × (name_of c gate ≡ Some m)
    go s n named (inl on) pin only =
        let here : option_map_or (sinks c) (name_of c s) [] ≡ sink.Pin gate pin ∷ [] =
        rw on at only in
        let all : sinks c n ≡ sink.Pin gate pin ∷ [] =
        sym (ap (λ o. option_map_or (sinks c) o []) named) ∙ here in
        let there : Among (sink.Pin gate pin) (sinks c n) = rw all (inl refl) in
        read n pin (pin_reads c n gate pin there)
    go s n named (inr b) pin only =
        let own : b.0 ≡ sink.Pin gate pin =
        branch_read c b.0 gate pin (subst (λ l. readers c l ≡ sink.Pin gate pin ∷ []) b.2 only) in
        let there : Among (sink.Pin gate pin) (sinks c n) =
        subst (λ k. Among k (sinks c n)) own (branch_among c n b.0 b.1) in
        read n pin (pin_reads c n gate pin there)

-- the fault at a place of the list, with its line and its bit
pub record FaultAt (m : Model) (c : List Statement) (i : ℕ) (l : Line) (b : Bool) : Type 0 where
  pub there : slice_get (faults m c) i ≡ Some (fault_on m l b)
  pub listed : Contains (faults m c) (fault_on m l b)

pub line_at : (m : Model) (c : List Statement) (i : ℕ) (l : Line) → i < length (faults m c)
    → IfSome (slice_get (faults m c) i) (λ f. l ≡ f.line) → (b : Bool) × FaultAt m c i l b
line_at m c i l lt e =
    let p = within_place (faults m c) i lt in
    let same : l ≡ p.0.line = rw p.1 at e in
    let of : p.0.model ≡ m =
    listed_model m c p.0 (contained (faults m c) p.0 (at_place (faults m c) i p.0 p.1)) in
    let it : p.0 ≡ fault_on m l p.0.stuck =
    ap (λ x. fault_on x p.0.line p.0.stuck) of ∙ ap (λ x. fault_on m x p.0.stuck) (sym same) in (
      p.0.stuck,
      record {
        there = p.1 ∙ ap Some it;
        listed = contained (faults m c) (fault_on m l p.0.stuck)
            (at_place (faults m c) i (fault_on m l p.0.stuck) (p.1 ∙ ap Some it));
      },
    )

pub fault_at : (m : Model) (c : List Statement) (i : ℕ) (l : Line) (b : Bool)
    → i < length (faults m c) → IfSome (slice_get (faults m c) i) (λ f. l ≡ f.line)
    → IfSome (slice_get (faults m c) i) (λ f. b ≡ f.stuck) → FaultAt m c i l b
fault_at m c i l b lt e g =
    let p = within_place (faults m c) i lt in
    let same : l ≡ p.0.line = rw p.1 at e in
    let bits : b ≡ p.0.stuck = rw p.1 at g in
    let of : p.0.model ≡ m =
    listed_model m c p.0 (contained (faults m c) p.0 (at_place (faults m c) i p.0 p.1)) in
    let it : p.0 ≡ fault_on m l b =
    ap (λ x. fault_on x p.0.line p.0.stuck) of ∙ ap (λ x. fault_on m x p.0.stuck) (sym same)
    ∙ ap (λ x. fault_on m l x) (sym bits) in
    record {
      there = p.1 ∙ ap Some it;
      listed = contained (faults m c) (fault_on m l b)
          (at_place (faults m c) i (fault_on m l b) (p.1 ∙ ap Some it));
    }
