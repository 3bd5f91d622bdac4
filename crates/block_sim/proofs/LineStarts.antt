-- The start of a fault of the list: the signal that its line carries, and the first change on a
-- stem or on a gate's pin.
use Rattle.std.proofs.Common.{◌≡◌, ◌≢◌, ◌<◌, ◌≤◌, ℕ, ◌^◌, sym, ◌∙◌, ap, true, List, [], ◌∷◌, length}
use Rattle.std.{proofs.Common.{map, arith}, specs.Prelude.slice_index_or}
use Rattle.std.specs.Prelude.{◌==◌, Contains, Some, None, bit_and, bit_xor, count_by}
use Rattle.bench_net.specs.{declared.Kind.Kind, Statement.{Name, Statement, Gate}}
use Rattle.bench_net.specs.Scan.{names, signal, name_of, definition, gate_of, gate_line}
use Rattle.bench_net.specs.Circuit.{IsWellFormed}
use Rattle.bench_net.proofs.Public.{definition_defines, name_of-signal, signal-name_of}
use Rattle.list_lemmas.proofs.{Members.contained, Places.{at_place, place_within}}
use Rattle.fault_model.specs.declared.Line.TheVariants as line
use Rattle.fault_model.specs.{declared.Model.Model, Detection.{argument, name_on}}
use Rattle.fault_model.specs.{Fault.{Fault, faults}, Solution.{Test, value}}
use Rattle.fault_model.proofs.Public.{carries}
use lib.Bits.{and_le_r}
use Rattle.block_sim.specs.{ActiveGates.{AreInGroup, HasActiveIn}, Propagation.IsFirstChange}
use Rattle.block_sim.proofs.FaultStart.{first_on_pin, pin_active, stem_change, turned_is}
use Rattle.block_sim.proofs.PendingGates.{count_one}
use Rattle.flat_circuit.specs.Words.{lane, pin_bits, AreWords}
use Rattle.flat_circuit.proofs.Public.{pin_of, gate_within, no_loop, some_lane}

-- the signal that a fault's line carries, by its name and its number
pub record IsCarried (c : List Statement) (f : Fault) (number : ℕ) : Type 0 where
  pub name : Name
  pub on : name_on c f.line ≡ Some name
  pub is : number ≡ signal c name
  pub within : number < length (names c)

-- a fault on a stem first changes the stem, in the lanes in which it is excited
pub record StartsOnStem (c : List Statement) (f : Fault) (good : List ℕ) (lanes : ℕ)
    (delta : List ℕ) (start number word : ℕ) : Type 0 where
  pub within : start < length (names c)
  pub first : (tests : List Test) (group : ℕ) → AreWords c tests group None good
      → IsFirstChange c tests group (λ _. f) good lanes delta start
      (bit_and (bit_xor word (slice_index_or good number 0)) lanes)

-- a fault on a pin of a gate first changes the gate's signal, in the lanes in which the gate's word
-- differs
pub record StartsOnPin (c : List Statement) (f : Fault) (good : List ℕ) (lanes gate : ℕ) :
    Type 0 where
  pub within : gate < length (names c)
  pub driven : (driver : Kind × List ℕ) × (gate_of c gate ≡ Some driver)
  pub first : (tests : List Test) (group : ℕ) (before after : List ℕ) (diff : ℕ)
      → AreWords c tests group None good → length (names c) ≤ length before → after ≡ before
      → ((kind : Kind) (pins : List ℕ) (k : ℕ) → gate_of c gate ≡ Some (kind, pins) → k < 128
      → lane lanes k ≡ true → lane (bit_xor (slice_index_or good gate 0) diff) k
      ≡ value kind (pin_bits (Some f) gate pins good before k))
      → IsFirstChange c tests group (λ _. f) good lanes after gate diff

module _ (c : List Statement) (m : Model) (f : Fault) (well : IsWellFormed c)
    (listed : Contains (faults m c) f) where
  pub is_on_name : (n : Name) × (name_on c f.line ≡ Some n)
  is_on_name = let n = carries m c f well listed in (n.0, n.1)

  pub starts_on_pin : (good : List ℕ) (lanes gate pin : ℕ) → f.line ≡ line.Pin gate pin
      → StartsOnPin c f good lanes gate
  starts_on_pin good lanes gate pin on =
      let n = carries m c f well listed in
      let reads : argument (definition c gate) pin ≡ Some n.0 = ap (name_on c) (sym on) ∙ n.1 in
      let p = pin_of c gate pin n.0 reads in
      let is : gate_of c gate ≡ Some (p.kind, map (signal c) p.args) = ap (gate_line c) p.is in
      let low : gate < length (names c) = gate_within c gate pin n.0 reads in
      record {
        within = low;
        driven = ((p.kind, map (signal c) p.args), is);
        first = λ tests group before after diff words room same changed.
            let long = ap length same in
            first_on_pin c tests group f good lanes after gate pin diff p.kind
            (map (signal c) p.args) well words on (omega (arith, low, room, long))
            (λ r. no_loop c gate well r) is
            (λ k lt in_lanes. changed p.kind (map (signal c) p.args) k is lt in_lanes
            ∙ ap (λ d. value p.kind (pin_bits (Some f) gate (map (signal c) p.args) good d k))
            (sym same));
      }

  -- the number that the code computes for this signal
  module _ (number : ℕ) (found : (n : Name) → name_on c f.line ≡ Some n → number ≡ signal c n) where
    pub is_carried : IsCarried c f number
    is_carried =
        let n = carries m c f well listed in
        let is = found n.0 n.1 in
        let lt = place_within (names c) _ n.0 (name_of-signal c n.0 n.2) in
        record { name = n.0; on = n.1; is = is; within = omega (arith, lt, is) }

    -- and the word that it computes for the stuck bit
    module _ (good : List ℕ) (lanes word : ℕ) (stuck : (k : ℕ) → k < 128
        → lane word k ≡ f.stuck) where
      pub starts_on_stem : (delta : List ℕ) (start : ℕ) → f.line ≡ line.Stem start
          → length (names c) ≤ length delta → StartsOnStem c f good lanes delta start number word
      starts_on_stem delta start on room =
          let n = carries m c f well listed in
          let named : name_of c start ≡ Some n.0 = ap (name_on c) (sym on) ∙ n.1 in
          let same : number ≡ start = found n.0 n.1
          ∙ signal-name_of c start n.0 well.once named n.2 in
          let low : start < length (names c) = place_within (names c) start n.0 named in
          record {
            within = low;
            first = λ tests group words. stem_change c tests group f good lanes delta start number
                word well words on (omega (arith, low, room)) same stuck;
          }

      -- if the fault is excited, the gate of the pin is active
      pub pin_counted : (tests : List Test) (group gate pin : ℕ) (gates : List ℕ)
          → AreWords c tests group None good → f.line ≡ line.Pin gate pin → lanes < 2 ^ 128
          → bit_and (bit_xor word (slice_index_or good number 0)) lanes ≢ 0
          → AreInGroup tests group lanes → HasActiveIn c tests group lanes (λ _. f) gates
          → 0 < count_by (λ g. g == gate) gates
      pin_counted tests group gate pin gates words on in_word some sized all =
          let n = carries m c f well listed in
          let excited = bit_and (bit_xor word (slice_index_or good number 0)) lanes in
          let below : excited < 2 ^ 128 =
          (let le = and_le_r (bit_xor word (slice_index_or good number 0)) lanes in
          omega (arith, le, in_word)) in
          let k = some_lane excited below some in
          let reads : argument (definition c gate) pin ≡ Some n.0 = ap (name_on c) (sym on) ∙ n.1 in
          let p = pin_of c gate pin n.0 reads in
          let d = definition_defines c gate (Gate p.name p.kind p.args) p.is in
          let head : p.name ∷ [] ≡ d.0 ∷ [] = d.1 in
          let one : d.0 ≡ p.name = cc in
          let named : name_of c gate ≡ Some p.name = d.2 ∙ ap Some one in
          let own = contained (names c) p.name (at_place (names c) gate p.name named) in
          let at : signal c p.name ≡ gate = signal-name_of c gate p.name well.once named own in
          let active = pin_active c tests group f good n.0 well words n.1 (λ _. Unit {0}) lanes
          excited (turned_is c f good lanes number word n.0 (found n.0 n.1) stuck) k.0 gate pin k.1
          on sized k.2 p.name p.kind p.args (contained c (Gate p.name p.kind p.args) d.3) at
          p.reads in
          count_one gate gates (all gate active)
