-- The signal that a line carries, from the results of the calls of a circuit.
use Rattle.std.proofs.Common.{◌≡◌, ◌<◌, ℕ, zero, suc, refl, sym, ◌∙◌, ap, subst, List, [], ◌∷◌}
use Rattle.std.{proofs.Common.length, specs.Prelude.option_map, proofs.lemmas.List.length-map}
use Rattle.std.specs.Prelude.{Option, Some, None, map, slice_get, slice_index_or, unwrap_or}
use Rattle.bench_net.specs.declared.{Kind.Kind, ScanCell.ScanCell}
use Rattle.bench_net.specs.Statement.{Name, Statement, Input, Output, Gate, Dff}
use Rattle.bench_net.specs.Scan.{names, signal, definition, gate_line, gate_of, cells, outputs}
use Rattle.bench_net.proofs.Public.{definition_defines}
use Rattle.list_lemmas.proofs.Places.{place_within}
use Rattle.fault_model.specs.declared.Line.TheVariants as line
use Rattle.fault_model.specs.Detection.{argument, name_on}
use Rattle.flat_circuit.proofs.{DataPins.data_signals, ListPlaces.mapped_at}

-- a pin that reads a name is a pin of a gate
pub record PinOf (c : List Statement) (gate pin : ℕ) (n : Name) : Type 0 where
  pub name : Name
  pub kind : Kind
  pub args : List Name
  pub is : definition c gate ≡ Some (Gate name kind args)
  pub reads : slice_get args pin ≡ Some n

pub pin_of : (c : List Statement) (gate pin : ℕ) (n : Name)
    → argument (definition c gate) pin ≡ Some n → PinOf c gate pin n
pin_of c gate pin n e = go (definition c gate) refl e
  where
    go : (o : Option Statement) → definition c gate ≡ o → argument o pin ≡ Some n
        → PinOf c gate pin n
    go None d e = let bad : None ≡ Some n = e in cc
    go (Some (Input m)) d e = let bad : None ≡ Some n = e in cc
    go (Some (Output m)) d e = let bad : None ≡ Some n = e in cc
    go (Some (Dff q m)) d e = let bad : None ≡ Some n = e in cc
    go (Some (Gate m kind args)) d e = record {
      name = m;
      kind = kind;
      args = args;
      is = d;
      reads = e;
    }

pub gate_within : (c : List Statement) (gate pin : ℕ) (n : Name)
    → argument (definition c gate) pin ≡ Some n → gate < length (names c)
gate_within c gate pin n e =
    let p = pin_of c gate pin n e in
    let d = definition_defines c gate (Gate p.name p.kind p.args) p.is in
    place_within (names c) gate d.0 d.2

pub never : (o : Option (Kind × List ℕ)) (g : Kind × List ℕ) → o ≡ Some g → o ≡ None → ⊥
never o g p q = let bad : None ≡ Some g = sym q ∙ p in cc

pub is_gate_there : (c : List Statement) (gate pin : ℕ) (n : Name)
    → argument (definition c gate) pin ≡ Some n → gate_of c gate ≡ None → ⊥
is_gate_there c gate pin n e none = let p = pin_of c gate pin n e in
    never (gate_of c gate) (p.kind, map (signal c) p.args) (ap (gate_line c) p.is) none

pub pin_reads_signal : (c : List Statement) (gate pin : ℕ) (n : Name) (kind : Kind) (pins : List ℕ)
    → argument (definition c gate) pin ≡ Some n → Some (kind, pins) ≡ gate_of c gate
    → (pin < length pins) × (slice_index_or pins pin 0 ≡ signal c n)
pin_reads_signal c gate pin n kind pins e at =
    let p = pin_of c gate pin n e in
    let same : Some (kind, pins) ≡ Some (p.kind, map (signal c) p.args) = at
    ∙ ap (gate_line c) p.is in
    let read : pins ≡ map (signal c) p.args =
    ap (λ (o : Option (Kind × List ℕ)). (unwrap_or o (kind, pins)).1) same in
    let long : length pins ≡ length p.args = ap length read ∙ length-map p.args (signal c) in (
      subst (λ k. pin < k) (sym long) (place_within p.args pin n p.reads),
      ap (λ xs. slice_index_or xs pin 0) read ∙ mapped_at (signal c) p.args pin n p.reads,
    )

pub output_signal : (c : List Statement) (observed : List ℕ) (output : ℕ) (n : Name)
    → observed ≡ map (signal c) (outputs c) → slice_get (outputs c) output ≡ Some n
    → (output < length observed) × (slice_index_or observed output 0 ≡ signal c n)
output_signal c observed output n e at =
    let long : length observed ≡ length (outputs c) = ap length e
    ∙ length-map (outputs c) (signal c) in (
      subst (λ k. output < k) (sym long) (place_within (outputs c) output n at),
      ap (λ xs. slice_index_or xs output 0) e ∙ mapped_at (signal c) (outputs c) output n at,
    )

-- the data pin of a cell
data_at : (cs : List (Name × Name)) (i : ℕ) (n : Name)
    → option_map (λ (qd : Name × Name). qd.1) (slice_get cs i) ≡ Some n
    → (qd : Name × Name) × (slice_get cs i ≡ Some qd) × (qd.1 ≡ n)
data_at [] i n e = let bad : None ≡ Some n = e in cc
data_at (qd ∷ cs) zero n e = (qd, refl, ap (λ o. unwrap_or o n) e)
data_at (qd ∷ cs) (suc i) n e = data_at cs i n e

pub data_signal : (c : List Statement) (stored : List ScanCell) (i : ℕ) (n : Name)
    → map {B = ℕ × ℕ} (λ cell. (cell.q, cell.d)) stored ≡ map (λ cell. (
      signal c cell.0,
      signal c cell.1,
    )) (cells c) → name_on c (line.Data i) ≡ Some n
    → (i < length stored) × (slice_index_or (map (λ (cell : ScanCell). cell.d) stored) i 0
    ≡ signal c n)
data_signal c stored i n e at =
    let p = data_at (cells c) i n at in
    let read = data_signals c stored e in
    let long : length stored ≡ length (cells c) =
    sym (length-map stored (λ (cell : ScanCell). cell.d))
    ∙ (ap length read ∙ length-map (cells c) (λ cell. signal c cell.1)) in (
      subst (λ k. i < k) (sym long) (place_within (cells c) i p.0 p.1),
      ap (λ xs. slice_index_or xs i 0) read
          ∙ (mapped_at (λ cell. signal c cell.1) (cells c) i p.0 p.1 ∙ ap (signal c) p.2),
    )
