-- The names of the signals that lines carry, from the results of the calls of a circuit.
use Rattle.std.proofs.Common.{◌≡◌, ◌<◌, ℕ, zero, suc, refl, ◌∙◌, ap, List, [], ◌∷◌, length}
use Rattle.std.{proofs.lemmas.Option.slice_get_within, specs.Prelude.unwrap_or}
use Rattle.std.specs.Prelude.{Option, Some, None, map, option_map, slice_get, slice_index_or}
use Rattle.bench_net.{specs.declared.Kind.Kind, proofs.Public.definition_defines}
use Rattle.bench_net.specs.Statement.{Name, Statement, Input, Output, Gate, Dff}
use Rattle.bench_net.specs.Scan.{names, signal, definition, gate_line, gate_of}
use Rattle.fault_model.specs.Detection.{argument}
pub use Rattle.block_coverage.proofs.Public.{mapped_at, q_named, signal_named, stored_at}

-- a pin that reads a name is a pin of a gate
pub record PinOf (c : List Statement) (gate pin : ℕ) (n : Name) : Type 0 where
  pub name : Name
  pub kind : Kind
  pub args : List Name
  pub is : definition c gate ≡ Some (Gate name kind args)
  pub reads : slice_get args pin ≡ Some n

pub pin_of : (c : List Statement) (gate pin : ℕ) (n : Name)
    → argument (definition c gate) pin ≡ Some n → PinOf c gate pin n
pin_of c gate pin n e = go (definition c gate) refl e
  where
    go : (o : Option Statement) → definition c gate ≡ o → argument o pin ≡ Some n
        → PinOf c gate pin n
    go None d e = let bad : None ≡ Some n = e in cc
    go (Some (Input m)) d e = let bad : None ≡ Some n = e in cc
    go (Some (Output m)) d e = let bad : None ≡ Some n = e in cc
    go (Some (Dff q m)) d e = let bad : None ≡ Some n = e in cc
    go (Some (Gate m kind args)) d e = record {
      name = m;
      kind = kind;
      args = args;
      is = d;
      reads = e;
    }

pub gate_within : (c : List Statement) (gate pin : ℕ) (n : Name)
    → argument (definition c gate) pin ≡ Some n → gate < length (names c)
gate_within c gate pin n e =
    let p = pin_of c gate pin n e in
    let d = definition_defines c gate (Gate p.name p.kind p.args) p.is in
    slice_get_within (names c) gate d.0 d.2

never : (o : Option (Kind × List ℕ)) (g : Kind × List ℕ) → o ≡ Some g → None ≡ o → ⊥
never o g p q = let bad : None ≡ Some g = q ∙ p in cc

pub is_gate_there : (c : List Statement) (gate pin : ℕ) (n : Name)
    → argument (definition c gate) pin ≡ Some n → None ≡ gate_of c gate → ⊥
is_gate_there c gate pin n e none = let p = pin_of c gate pin n e in
    never (gate_of c gate) (p.kind, map (signal c) p.args) (ap (gate_line c) p.is) none

pub pin_reads_signal : (c : List Statement) (gate pin : ℕ) (n : Name) (kind : Kind) (pins : List ℕ)
    → argument (definition c gate) pin ≡ Some n → Some (kind, pins) ≡ gate_of c gate
    → (pin < length pins) × (slice_index_or pins pin 0 ≡ signal c n)
pin_reads_signal c gate pin n kind pins e at =
    let p = pin_of c gate pin n e in
    let same : Some (kind, pins) ≡ Some (p.kind, map (signal c) p.args) = at
    ∙ ap (gate_line c) p.is in
    let read : pins ≡ map (signal c) p.args =
    ap (λ (o : Option (Kind × List ℕ)). (unwrap_or o (kind, pins)).1) same in
    mapped_at (signal c) p.args pins pin n read p.reads

-- the cell whose data pin reads a name
pub data_at : (cs : List (Name × Name)) (i : ℕ) (n : Name)
    → option_map (λ (qd : Name × Name). qd.1) (slice_get cs i) ≡ Some n
    → (qd : Name × Name) × (slice_get cs i ≡ Some qd) × (qd.1 ≡ n)
data_at [] i n e = let bad : None ≡ Some n = e in cc
data_at (qd ∷ cs) zero n e = (qd, refl, ap (λ o. unwrap_or o n) e)
data_at (qd ∷ cs) (suc i) n e = data_at cs i n e
