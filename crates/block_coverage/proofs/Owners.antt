-- The names of faults.
use Rattle.std.proofs.Common.{◌≡◌, ◌∙◌, ℕ, refl, ap, List, ◌<◌, ◌-◌, ◌^◌, length, arith}
use Rattle.std.specs.Prelude.{Contains, Option, Some, None, map, option_map, slice_get}
use Rattle.std.proofs.lemmas.Option.{slice_get-map}
use Rattle.bench_net.specs.{Statement.{Name, Statement}, Scan.{cells, definition, name_of, names}}
use Rattle.bench_net.{specs.Circuit.{IsCircuit, IsWellFormed}, proofs.Public.definition_defines}
use Rattle.fault_model.specs.declared.Line.{Line, TheVariants.{Stem, Pin, Data, Out}}
use Rattle.fault_model.specs.{declared.Model.Model, Detection.{argument, name_on}}
use Rattle.fault_model.{specs.Fault.{Fault, faults}, proofs.Public.{carries, faults_within}}
use Rattle.list_lemmas.proofs.{Members.contained, Places.at_place}
use Rattle.block_coverage.{specs.Blocks.owner, proofs.SignalNames.q_named}

-- a gate with a pin has a name
pin_owner : (c : List Statement) (gate pin : ℕ) (n : Name)
    → argument (definition c gate) pin ≡ Some n
    → (m : Name) × (name_of c gate ≡ Some m) × Contains (names c) m
pin_owner c gate pin n e = go (definition c gate) refl e
  where
    go : (o : Option Statement) → definition c gate ≡ o → argument o pin ≡ Some n
        → (m : Name) × (name_of c gate ≡ Some m) × Contains (names c) m
    go None d e = let bad : None ≡ Some n = e in cc
    go (Some st) d e = let is = definition_defines c gate st d in
        (is.0, is.2, contained (names c) is.0 (at_place (names c) gate is.0 is.2))

-- a flip-flop with a data pin has a name
data_owner : (c : List Statement) (i : ℕ) (n : Name)
    → option_map (λ (qd : Name × Name). qd.1) (slice_get (cells c) i) ≡ Some n
    → (m : Name) × (slice_get (map (λ qd. qd.0) (cells c)) i ≡ Some m) × Contains (names c) m
data_owner c i n e = go (slice_get (cells c) i) refl e
  where
    go : (o : Option (Name × Name)) → slice_get (cells c) i ≡ o
        → option_map (λ (qd : Name × Name). qd.1) o ≡ Some n
        → (m : Name) × (slice_get (map (λ qd. qd.0) (cells c)) i ≡ Some m) × Contains (names c) m
    go None d e = let bad : None ≡ Some n = e in cc
    go (Some qd) d e = (
      qd.0,
      slice_get-map (λ qd. qd.0) (cells c) i ∙ ap (option_map (λ qd. qd.0)) d,
      q_named c i qd d,
    )

-- each fault of the list has a name
pub owned : (m : Model) (c : List Statement) (f : Fault) → IsWellFormed c → Contains (faults m c) f
    → (n : Name) × (owner c f.line ≡ Some n) × Contains (names c) n
owned m c f well at = let p = carries m c f well at in go f.line p.0 p.1 p.2
  where
    go : (l : Line) (n : Name) → name_on c l ≡ Some n → Contains (names c) n
        → (n : Name) × (owner c l ≡ Some n) × Contains (names c) n
    go (Stem s) n e has = (n, e, has)
    go (Pin gate pin) n e has = pin_owner c gate pin n e
    go (Data cell) n e has = data_owner c cell n e
    go (Out output) n e has = (n, e, has)

-- a fault list has fewer faults than a number of 32 bits could count one more of
pub few_faults : (m : Model) (c : List Statement) (list : List Fault) → list ≡ faults m c
    → IsCircuit c → length list < 2 ^ 32 - 1
few_faults m c list e is =
    let within = faults_within m c is in
    let long = ap length e in
    omega (arith, within, long)
