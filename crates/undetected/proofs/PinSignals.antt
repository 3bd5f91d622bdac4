-- The signal that a gate's pin reads, out of what the calls of a circuit give.
use Rattle.std.proofs.Common.{◌≡◌, ◌<◌, ◌∙◌, ℕ, List, ap, length, refl}
use Rattle.std.proofs.lemmas.Option.{get_or_from_slice_get, slice_get-map, slice_get_within}
use Rattle.std.specs.Prelude.{Contains, None, Option, Some, map, option_map, slice_get}
use Rattle.std.specs.Prelude.{slice_index_or, unwrap_or}
use Rattle.bench_net.{specs.declared.Kind.Kind, proofs.Public.{definition_defines, name_of-signal}}
use Rattle.bench_net.specs.Statement.{Name, Statement, Input, Output, Gate, Dff}
use Rattle.bench_net.specs.Scan.{definition, gate_line, gate_of, names, signal}
use Rattle.fault_model.specs.Detection.{argument}

-- a pin that reads a name is one of a gate
pub record PinOf (c : List Statement) (gate pin : ℕ) (n : Name) : Type 0 where
  pub name : Name
  pub kind : Kind
  pub args : List Name
  pub is : definition c gate ≡ Some (Gate name kind args)
  pub reads : slice_get args pin ≡ Some n

pin_of : (c : List Statement) (gate pin : ℕ) (n : Name)
    → argument (definition c gate) pin ≡ Some n → PinOf c gate pin n
pin_of c gate pin n e = go (definition c gate) refl e
  where
    go : (o : Option Statement) → definition c gate ≡ o → argument o pin ≡ Some n
        → PinOf c gate pin n
    go None d e = let bad : None ≡ Some n = e in cc
    go (Some (Input m)) d e = let bad : None ≡ Some n = e in cc
    go (Some (Output m)) d e = let bad : None ≡ Some n = e in cc
    go (Some (Dff q m)) d e = let bad : None ≡ Some n = e in cc
    go (Some (Gate m kind args)) d e = record {
      name = m;
      kind = kind;
      args = args;
      is = d;
      reads = e;
    }

pub gate_within : (c : List Statement) (gate pin : ℕ) (n : Name)
    → argument (definition c gate) pin ≡ Some n → gate < length (names c)
gate_within c gate pin n e =
    let p = pin_of c gate pin n e in
    let d = definition_defines c gate (Gate p.name p.kind p.args) p.is in
    slice_get_within (names c) gate d.0 d.2

never : (o : Option (Kind × List ℕ)) (g : Kind × List ℕ) → o ≡ Some g → None ≡ o → ⊥
never o g p q = let bad : None ≡ Some g = q ∙ p in cc

pub is_gate_there : (c : List Statement) (gate pin : ℕ) (n : Name)
    → argument (definition c gate) pin ≡ Some n → None ≡ gate_of c gate → ⊥
is_gate_there c gate pin n e none = let p = pin_of c gate pin n e in
    never (gate_of c gate) (p.kind, map (signal c) p.args) (ap (gate_line c) p.is) none

pub pin_reads_signal : (c : List Statement) (gate pin : ℕ) (n : Name) (kind : Kind) (pins : List ℕ)
    → argument (definition c gate) pin ≡ Some n → Some (kind, pins) ≡ gate_of c gate
    → (pin < length pins) × (slice_index_or pins pin 0 ≡ signal c n)
pin_reads_signal c gate pin n kind pins e at =
    let p = pin_of c gate pin n e in
    let same : Some (kind, pins) ≡ Some (p.kind, map (signal c) p.args) = at
    ∙ ap (gate_line c) p.is in
    let read : pins ≡ map (signal c) p.args =
    ap (λ (o : Option (Kind × List ℕ)). (unwrap_or o (kind, pins)).1) same in
    let there : slice_get pins pin ≡ Some (signal c n) = ap (λ l. slice_get l pin) read
    ∙ (slice_get-map (signal c) p.args pin ∙ ap (option_map (signal c)) p.reads) in (
      slice_get_within pins pin (signal c n) there,
      get_or_from_slice_get pins pin (signal c n) 0 there,
    )

-- a defined name has the number of a signal
pub signal_within : (c : List Statement) (n : Name) → Contains (names c) n
    → signal c n < length (names c)
signal_within c n at = slice_get_within (names c) (signal c n) n (name_of-signal c n at)
