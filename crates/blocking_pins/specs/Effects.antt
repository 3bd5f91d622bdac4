-- What is known of the effect of a fault while it spreads, and of the pins that block it.
use Rattle.std.specs.Prelude.{◌≡◌, ◌≢◌, ◌⊎◌, ◌+◌, ◌<◌, ◌≤◌, ℕ, Bool, true, false, All, AllPairs}
use Rattle.std.specs.Prelude.{Contains, List, [], length, None, Some, bit_and}
use Rattle.std.specs.Prelude.{bit_xor, slice_get, slice_index_or, set}
use Rattle.bench_net.specs.declared.Kind.{Kind}
use Rattle.bench_net.specs.Statement.{Statement}
use Rattle.bench_net.specs.Scan.{gate_of, names}
use Rattle.fault_model.specs.declared.Line.TheVariants as line
use Rattle.fault_model.specs.Fault.{Fault}
use Rattle.fault_model.specs.Reordered.{place}
use Rattle.fault_model.specs.Solution.{Test, Solves, under, value}
use Rattle.block_sim.specs.Events.{HasEquation, bits_of}
use Rattle.flat_circuit.specs.Readers.{Reads}
use Rattle.flat_circuit.specs.Words.{AreWords, lane, pin_bits, test_of, word_over}
use Rattle.blocking_pins.specs.Blocking.{controlling}
use Rattle.blocking_pins.specs.declared.effect.Effect.{Effect}
use Rattle.blocking_pins.specs.declared.gate_pins.GatePin.{GatePin}

-- each signal's list has the gates below a number that read it, and only gates that do
pub record HaveReadersBelow (c : List Statement) (end : ℕ) (rows : List (List ℕ)) : Type 0 where
  pub count : length rows ≡ length (names c)
  pub each : (s : ℕ) (row : List ℕ) → slice_get rows s ≡ Some row → All (λ g. Reads c g s) row
  pub all : (g s : ℕ) (row : List ℕ) → g < end → Reads c g s → slice_get rows s ≡ Some row
      → Contains row g

abbrev pub HaveReaders : List Statement → List (List ℕ) → Type 0
HaveReaders c rows = HaveReadersBelow c (length (names c)) rows

-- a fault is on the stem of the signal, or a gate drives the signal
abbrev pub CanChange : List Statement → Fault → ℕ → Type 0
CanChange c f s = (f.line ≡ line.Stem s)
    ⊎ ((driver : Kind × List ℕ) × (gate_of c s ≡ Some driver))

-- there is room for the effects of faults on a circuit, and no effect is known
pub record IsFresh (c : List Statement) (effect : Effect) : Type 0 where
  pub overlay : length (names c) ≤ length effect.overlay
  pub waiting : length (names c) < length effect.waiting
  pub same : All (λ word. word ≡ 0) effect.overlay
  pub idle : All (λ flag. flag ≡ 0) effect.waiting
  pub none : effect.reached.items ≡ []

-- the effect comes to the gate: the fault is on one of its pins, or it reads a signal that differs
abbrev pub IsTouched : List Statement → Fault → List ℕ → ℕ → Type 0
IsTouched c f delta g = ((pin : ℕ) × (f.line ≡ line.Pin g pin))
    ⊎ ((s : ℕ) × Reads c g s × (slice_index_or delta s 0 ≢ 0))

-- in each of the lanes the words that differ from the fault-free ones solve the faulty circuit
abbrev pub AreFaulty : List Statement → Fault → List ℕ → ℕ → List ℕ → Type 0
AreFaulty c f good lanes delta = (tests : List Test) (group : ℕ) → AreWords c tests group None good
    → (k : ℕ) → k < 128 → lane lanes k ≡ true
    → Solves c (test_of tests group k) (Some f) (bits_of c good delta k)

-- the word of a signal under a fault, from the words of the signals that its gate reads
pub record IsWordUnder (c : List Statement) (f : Fault) (good delta : List ℕ) (s word : ℕ) :
    Type 0 where
  pub stem : f.line ≡ line.Stem s → (k : ℕ) → k < 128 → lane word k ≡ f.stuck
  pub gate : f.line ≢ line.Stem s → (kind : Kind) × (pins : List ℕ)
      × (gate_of c s ≡ Some (kind, pins)) × ((k : ℕ) → k < 128
      → lane word k ≡ value kind (pin_bits (Some f) s pins good delta k))

-- One signal was evaluated: it differs in the lanes in which its word does, and if it differs in
-- some, its readers wait.
pub record IsVisited (c : List Statement) (f : Fault) (good : List ℕ) (lanes s : ℕ)
    (delta waiting after now : List ℕ) : Type 0 where
  pub word : ℕ
  pub valued : IsWordUnder c f good delta s word
  pub changed : after ≡ set delta s (bit_and (bit_xor word (slice_index_or good s 0)) lanes)
  pub readers : (r : ℕ) → Reads c r s → slice_index_or after s 0 ≢ 0
      → slice_index_or now r 0 ≢ 0
  pub only : (r : ℕ) → (slice_index_or now r 0 ≡ slice_index_or waiting r 0)
      ⊎ (Reads c r s × (slice_index_or now r 0 ≢ 0))
  pub room : length now ≡ length waiting

-- Signals before the place have their final words, and those that wait lie behind it.
pub record IsSpreading (c : List Statement) (f : Fault) (good : List ℕ) (lanes : ℕ)
    (delta waiting reached : List ℕ) (from : ℕ) : Type 0 where
  pub balanced : (tests : List Test) (group : ℕ) → AreWords c tests group None good
      → (s k : ℕ) → slice_index_or waiting s 0 ≡ 0 → k < 128 → lane lanes k ≡ true
      → HasEquation c (test_of tests group k) (Some f) (bits_of c good delta k) s
  pub behind : (s : ℕ) → slice_index_or waiting s 0 ≢ 0 → from ≤ s
  pub within : (s : ℕ) → slice_index_or waiting s 0 ≢ 0 → s < length (names c)
  pub driven : (s : ℕ) → slice_index_or waiting s 0 ≢ 0 → CanChange c f s
  pub clear : (s : ℕ) → from ≤ s → slice_index_or delta s 0 ≡ 0
  pub touched : (g : ℕ) → IsTouched c f delta g
      → (slice_index_or waiting g 0 ≢ 0) ⊎ Contains reached g
  pub listed : All (λ s. s < length (names c)) reached

-- some pin of the gate sees another bit than without the fault
abbrev pub Differs : Fault → List ℕ → List ℕ → ℕ → List ℕ → ℕ → Type 0
Differs f good delta gate pins k = (pin : ℕ) × (read : ℕ) × (slice_get pins pin ≡ Some read)
    × (lane (slice_index_or good read 0) k
    ≢ under (Some f) (line.Pin gate pin) (lane (word_over good delta read) k))

-- The words of a gate and its pins in a lane say that a pin blocks the effect of the fault.
pub record Stops (c : List Statement) (f : Fault) (good delta : List ℕ) (gate pin k : ℕ) :
    Type 0 where
  pub kind : Kind
  pub pins : List ℕ
  pub read : ℕ
  pub bit : Bool
  pub driven : gate_of c gate ≡ Some (kind, pins)
  pub controls : controlling kind ≡ Some bit
  pub at : slice_get pins pin ≡ Some read
  pub same : lane (slice_index_or delta gate 0) k ≡ false
  pub enters : Differs f good delta gate pins k
  pub free_bit : lane (slice_index_or good read 0) k ≡ bit
  pub faulty_bit : under (Some f) (line.Pin gate pin) (lane (word_over good delta read) k) ≡ bit

-- one pin comes before another: by its gate, and at one gate by its number
abbrev pub IsBefore : GatePin → GatePin → Type 0
IsBefore a b = (a.gate < b.gate) ⊎ ((a.gate ≡ b.gate) × (a.pin < b.pin))

-- a gate of the circuit has the pin
abbrev pub IsGatePin : List Statement → GatePin → Type 0
IsGatePin c at = (kind : Kind) × (reads : List ℕ) × (gate_of c at.gate ≡ Some (kind, reads))
    × (at.pin < length reads)

-- the pins of all gates, in their order
pub record AreAllPins (c : List Statement) (pins : List GatePin) : Type 0 where
  pub each : All (IsGatePin c) pins
  pub all : (gate pin : ℕ) (kind : Kind) (reads : List ℕ)
      → gate_of c gate ≡ Some (kind, reads) → pin < length reads
      → Contains pins (record { gate = gate; pin = pin })
  pub ordered : AllPairs IsBefore pins

-- the pins of the gate of a signal, none for a source
pub record ArePinsOf (c : List Statement) (gate : ℕ) (pins : List GatePin) : Type 0 where
  pub each : (i : ℕ) (at : GatePin) → slice_get pins i ≡ Some at
      → at ≡ record { gate = gate; pin = i }
  pub driven : (i : ℕ) → i < length pins → (kind : Kind) × (reads : List ℕ)
      × (gate_of c gate ≡ Some (kind, reads)) × (i < length reads)
  pub all : (kind : Kind) (reads : List ℕ) → gate_of c gate ≡ Some (kind, reads)
      → length reads ≤ length pins

-- The pins of the gates before a number, each where its gate's pins begin and its own number; a
-- gate is given by its number, and the beginnings by places.
pub record AreGatePins (c d : List Statement) (end : ℕ) (pins : List GatePin)
    (starts : List ℕ) : Type 0 where
  pub count : length starts ≡ length (names d)
  pub at : (gate pin : ℕ) (kind : Kind) (reads : List ℕ) → gate < end
      → gate_of c gate ≡ Some (kind, reads) → pin < length reads
      → slice_get pins (slice_index_or starts (place c d gate) 0 + pin)
      ≡ Some (record { gate = gate; pin = pin })
  pub back : (i : ℕ) (at : GatePin) → slice_get pins i ≡ Some at
      → (at.gate < end) × (kind : Kind) × (reads : List ℕ)
      × (gate_of c at.gate ≡ Some (kind, reads)) × (at.pin < length reads)
      × (i ≡ slice_index_or starts (place c d at.gate) 0 + at.pin)
  pub ordered : AllPairs IsBefore pins
