-- The start of a fault on wide words, lane by lane.
use Rattle.std.proofs.Common.{◌≡◌, ◌≢◌, ◌<◌, ◌==◌, ◌&&◌, ℕ, refl, sym, ◌∙◌, ap, subst, Bool, true}
use Rattle.std.proofs.Common.{false, not, List, [], ◌∷◌, suc, ◌+◌, map, length, arith, eq-eqb}
use Rattle.std.{proofs.Common.eqb-true, specs.Bool.Decides, specs.List.enumerate_from}
use Rattle.std.specs.Prelude.{Contains, Some, None, bit_and, slice_get, slice_index_or}
use Rattle.std.proofs.lemmas.Bool.{false≢true}
use Rattle.bench_net.specs.{declared.Kind.Kind, Statement.{Name, Statement, Gate}}
use Rattle.bench_net.specs.Scan.{definition, gate_of, names, signal, name_of}
use Rattle.bench_net.specs.Circuit.{IsWellFormed}
use Rattle.list_lemmas.proofs.{Members.contained, Places.place_within}
use Rattle.fault_model.specs.{declared.Line.Line, declared.Model.Model, Fault.{Fault, faults}}
use Rattle.fault_model.specs.Detection.{argument, name_on}
use Rattle.fault_model.specs.Solution.{Detects, Solves, Test, pins_see, under, value}
use Rattle.fault_model.proofs.Public.{carries, definition-signal, under_other, under_own}
use Rattle.fault_model.specs.declared.Line.TheVariants as line
use Rattle.patterns.specs.Least.{below, from_up}
use Rattle.wide_words.specs.Lanes.{IsLayout, Layout, lane_in, slot_of}
use Rattle.region_sim.specs.declared.unit_gate.Turned.TheVariants as turned
use Rattle.region_sim.specs.{declared.unit_region.WideArrival.WideArrival, Pack.AreRows}
use Rattle.region_sim.specs.declared.unit_start.WideReach.{WideReach, TheVariants.{Observed, Stem}}
use Rattle.region_sim.specs.Units.{HaveCome, CarryFlip, lane_test, turned_bits}
use Rattle.region_sim.proofs.OneFault.{observer_reached, pin_reached, stem_reached}
use Rattle.region_sim.proofs.PackGates.{in_group, slot_low, unlike_is}
use Rattle.region_sim.proofs.OneLane.{kept_bit as unlike_false}
use Rattle.flat_circuit.specs.{GateForms.inverted_if, Words.{lane, lane_bits}, SlotWords.copied_bit}
use Rattle.flat_circuit.proofs.Public.{gate_within, unlike, right_of as masked}
use Rattle.block_sim.specs.Flips.{start_of}
use Rattle.block_sim.proofs.Public.{Enters, pin_enters, lanes_both, lanes_first, lanes_second}
use Rattle.block_sim.proofs.Public.{fault_law, gate_named_of_signal_equations as gate_named}

-- the signal of an end at a stem
abbrev signal_or : WideReach → ℕ
signal_or (Stem at) = at.signal
signal_or (Observed word) = 0

pub at_signal : (from at : WideArrival) → ◌≡◌ {A = WideReach} (Stem from) (Stem at)
    → from.signal ≡ at.signal
at_signal from at e = ap signal_or e

differs_on : (x b m : Bool) → (unlike x b && m) ≡ true → x ≢ b
differs_on true true m e same = false≢true e
differs_on true false m e same = false≢true (sym same)
differs_on false true m e same = false≢true same
differs_on false false m e same = false≢true e

differs_is : (x b m : Bool) → m ≡ true → x ≢ b → (unlike x b && m) ≡ true
differs_is true true m on ne = absurd (ne refl)
differs_is true false m on ne = on
differs_is false true m on ne = on
differs_is false false m on ne = absurd (ne refl)

same_off : (x b m : Bool) → (unlike x b && m) ≡ false → m ≡ true → x ≡ b
same_off true true m e on = refl
same_off true false m e on = absurd (false≢true (sym e ∙ on))
same_off false true m e on = absurd (false≢true (sym e ∙ on))
same_off false false m e on = refl

other_bit : (x b : Bool) → x ≢ b → not x ≡ b
other_bit true true ne = absurd (ne refl)
other_bit true false ne = refl
other_bit false true ne = refl
other_bit false false ne = absurd (ne refl)

-- lists by places and elements
by_places : {X Y : Type 0} (g : Y → ℕ) (F : ℕ → ℕ → X) (H : ℕ → Y → X) (ys : List Y)
    → ((i : ℕ) (y : Y) → slice_get ys i ≡ Some y → F i (g y) ≡ H i y)
    → map (λ i. F i (slice_index_or (map g ys) i 0)) (below (length (map g ys)))
    ≡ map (λ at. H at.0 at.1) (enumerate_from 0 ys)
by_places {X} {Y} g F H ys same =
    go 0 ys (λ i. ap (λ n. slice_index_or (map g ys) n 0) (omega arith))
    (λ i y e. (let place : i ≡ 0 + i = omega arith in
    subst (λ n. F n (g y) ≡ H n y) place (same i y e)))
  where
    go : (from : ℕ) (rest : List Y)
        → ((i : ℕ) → slice_index_or (map g rest) i 0 ≡ slice_index_or (map g ys) (from + i) 0)
        → ((i : ℕ) (y : Y) → slice_get rest i ≡ Some y → F (from + i) (g y) ≡ H (from + i) y)
        → map (λ i. F i (slice_index_or (map g ys) i 0)) (from_up from (length (map g rest)))
        ≡ map (λ at. H at.0 at.1) (enumerate_from from rest)
    go from [] at alike = refl
    go from (y ∷ rest) at alike =
        let here : from + 0 ≡ from = omega arith in
        let first : F from (slice_index_or (map g ys) from 0) ≡ H from y =
        ap (F from) (ap (λ n. slice_index_or (map g ys) n 0) (sym here) ∙ sym (at 0))
        ∙ subst (λ n. F n (g y) ≡ H n y) here (alike 0 y refl) in
        ap (λ x. x ∷ map (λ i. F i (slice_index_or (map g ys) i 0))
        (from_up (from + 1) (length (map g rest)))) first ∙ ap (λ more. H from y ∷ more)
        (go (from + 1) rest
        (λ i. at (suc i) ∙ ap (λ n. slice_index_or (map g ys) n 0) (omega arith))
        (λ i z e. (let next : from + suc i ≡ from + 1 + i = omega arith in
        subst (λ n. F n (g z) ≡ H n z) next (alike (suc i) z e))))

module _ (c : List Statement) (well : IsWellFormed c) (tests : List Test) (l : Layout)
    (sized : IsLayout l) (group : ℕ → ℕ) (good : ℕ → List ℕ) (rows : AreRows c tests l group good)
    (f : Fault) (n : Name) (on_name : name_on c f.line ≡ Some n) (carried : ℕ)
    (number : carried ≡ signal c n) (excited mask : ℕ) (is : (k : ℕ) → k < 512
    → lane excited k ≡ (unlike (copied_bit l good k carried) f.stuck && lane mask k)) where
  abbrev bits : ℕ → Name → Bool
  bits k = lane_bits c (good (slot_of l k)) (lane_in l k)

  solves : (k : ℕ) → k < 512 → Solves c (lane_test tests l group k) None (bits k)
  solves k lt = rows (slot_of l k) (slot_low l sized k lt) (lane_in l k) (in_group l sized k)

  here : (k : ℕ) → copied_bit l good k carried ≡ bits k n
  here k = ap (copied_bit l good k) number

  inside : (k : ℕ) → k < 512 → lane excited k ≡ true → lane mask k ≡ true
  inside k lt e = masked (unlike (copied_bit l good k carried) f.stuck) (lane mask k)
      (sym (is k lt) ∙ e)

  excited_is : (k : ℕ) → k < 512 → lane mask k ≡ true
      → Decides (lane excited k) (bits k n ≢ f.stuck)
  excited_is k lt asked = (
    λ e same. differs_on (copied_bit l good k carried) f.stuck (lane mask k) (sym (is k lt) ∙ e)
        (here k ∙ same),
    λ ne. is k lt ∙ differs_is (copied_bit l good k carried) f.stuck (lane mask k) asked
        (λ same. ne (sym (here k) ∙ same)),
  )

  pub stem_comes : (s : ℕ) → name_of c s ≡ Some n → f.line ≡ line.Stem s
      → HaveCome c tests l group f mask s excited
  stem_comes s at on k lt asked =
      stem_reached c well (lane_test tests l group k) f (bits k) (solves k lt) s n at on
      (lane excited k) (excited_is k lt asked)

  pub observer_comes : (m : Model) → Contains (faults m c) f → start_of f.line ≡ None → (k : ℕ)
      → k < 512 → Decides (lane excited k) ((lane mask k ≡ true)
      × Detects c (lane_test tests l group k) f)
  observer_comes m at none k lt = (
    λ e. (let asked = inside k lt e in (
      asked,
      (observer_reached c well (lane_test tests l group k) f (bits k) (solves k lt) m n at none
          on_name (lane excited k) (excited_is k lt asked)).0 e,
    )),
    λ h. (observer_reached c well (lane_test tests l group k) f (bits k) (solves k lt) m n at none
        on_name (lane excited k) (excited_is k lt h.0)).1 h.1,
  )

  -- ---- a fault on a pin
  module _ (m : Model) (at : Contains (faults m c) f) (gate pin : ℕ)
      (on : f.line ≡ line.Pin gate pin) (result : ℕ)
      (less : (k : ℕ) → lane result k ≡ true → lane excited k ≡ true)
      (changed : (kind : Kind) (pins : List ℕ) (k : ℕ) → gate_of c gate ≡ Some (kind, pins)
      → k < 512 → lane excited k ≡ true → inverted_if (lane result k) (copied_bit l good k gate)
      ≡ value kind (turned_bits l good (turned.Pin pin) excited pins k)) where
    module _ (e : Enters c f.line) (named : signal c e.name ≡ gate) where
      stands : Contains c (Gate e.name e.kind e.args)
      stands = contained c (Gate e.name e.kind e.args) e.stands

      defined : definition c gate ≡ Some (Gate e.name e.kind e.args)
      defined = ap (definition c) (sym named)
          ∙ definition-signal c (Gate e.name e.kind e.args) e.name well stands refl

      read : slice_get e.args pin ≡ Some n
      read = sym (ap (λ o. argument o pin) defined) ∙ (ap (name_on c) (sym on) ∙ on_name)

      gate_is : gate_of c gate ≡ Some (e.kind, map (signal c) e.args)
      gate_is = gate_named c e.name e.kind e.args gate well named stands

      same_name : (a : Name) → slice_get e.args pin ≡ Some a → a ≡ n
      same_name a there = let both : Some a ≡ Some n = sym there ∙ read in cc

      -- the bits that the pins see with the fault, where the line has the other bit
      turned_see : (k : ℕ) → k < 512 → lane excited k ≡ true
          → turned_bits l good (turned.Pin pin) excited (map (signal c) e.args) k
          ≡ pins_see (Some f) (bits k) gate e.args
      turned_see k lt ex = by_places (signal c) (λ i s. inverted_if (i == pin && lane excited k)
          (copied_bit l good k s)) (λ i a. under (Some f) (line.Pin gate i) (bits k a)) e.args
          (λ i a there. by i a there (i == pin) refl)
        where
          by : (i : ℕ) (a : Name) → slice_get e.args i ≡ Some a → (b : Bool) → (i == pin) ≡ b
              → inverted_if (i == pin && lane excited k) (copied_bit l good k (signal c a))
              ≡ under (Some f) (line.Pin gate i) (bits k a)
          by i a there true eq =
              let place : i ≡ pin = eqb-true i pin eq in
              let name : a ≡ n = same_name a (ap (slice_get e.args) (sym place) ∙ there) in
              let other = (excited_is k lt (inside k lt ex)).0 ex in
              ap (λ b. inverted_if (b && lane excited k) (bits k a)) eq
              ∙ (ap (λ b. inverted_if b (bits k a)) ex ∙ (ap (λ x. not (bits k x)) name
              ∙ (other_bit (bits k n) f.stuck other ∙ sym (under_own f (line.Pin gate i) (bits k a)
              (on ∙ ap (line.Pin gate) (sym place))))))
          by i a there false eq = ap (λ b. inverted_if (b && lane excited k) (bits k a)) eq
              ∙ sym (under_other f (line.Pin gate i) (bits k a)
              (λ same. (let lines : line.Pin gate pin ≡ line.Pin gate i = sym on ∙ same in
              let place : i ≡ pin = cc in false≢true (sym eq ∙ eq-eqb i pin place))))

      -- and where it has the stuck bit already
      plain_see : (k : ℕ) → bits k n ≡ f.stuck
          → pins_see None (bits k) gate e.args ≡ pins_see (Some f) (bits k) gate e.args
      plain_see k stuck = go 0 e.args (λ i a there. (let place : 0 + i ≡ i = omega arith in
          ap (slice_get e.args) place ∙ there))
        where
          here_is : (i : ℕ) (a : Name) → slice_get e.args i ≡ Some a → (b : Bool) → (i == pin) ≡ b
              → bits k a ≡ under (Some f) (line.Pin gate i) (bits k a)
          here_is i a there true eq =
              let place : i ≡ pin = eqb-true i pin eq in
              let name : a ≡ n = same_name a (ap (slice_get e.args) (sym place) ∙ there) in
              ap (bits k) name ∙ (stuck ∙ sym (under_own f (line.Pin gate i) (bits k a)
              (on ∙ ap (line.Pin gate) (sym place))))
          here_is i a there false eq = sym (under_other f (line.Pin gate i) (bits k a)
              (λ same. (let lines : line.Pin gate pin ≡ line.Pin gate i = sym on ∙ same in
              let place : i ≡ pin = cc in false≢true (sym eq ∙ eq-eqb i pin place))))

          go : (from : ℕ) (rest : List Name) → ((i : ℕ) (a : Name) → slice_get rest i ≡ Some a
              → slice_get e.args (from + i) ≡ Some a)
              → map (λ at. under None (line.Pin gate at.0) (bits k at.1)) (enumerate_from from rest)
              ≡ map (λ at. under (Some f) (line.Pin gate at.0) (bits k at.1))
              (enumerate_from from rest)
          go from [] there = refl
          go from (a ∷ rest) there =
              let place : from + 0 ≡ from = omega arith in
              ap (λ b. b ∷ map (λ at. under None (line.Pin gate at.0) (bits k at.1))
              (enumerate_from (from + 1) rest))
              (here_is from a (sym (ap (slice_get e.args) place) ∙ there 0 a refl) (from == pin)
              refl) ∙ ap (λ bs. under (Some f) (line.Pin gate from) (bits k a) ∷ bs)
              (go (from + 1) rest (λ i b is. (let next : from + suc i ≡ from + 1 + i = omega
              arith in
              sym (ap (slice_get e.args) next) ∙ there (suc i) b is)))

      valued : (k : ℕ) → k < 512 → lane mask k ≡ true → (b : Bool) → lane excited k ≡ b
          → unlike (bits k e.name) (lane result k)
          ≡ value e.kind (pins_see (Some f) (bits k) gate e.args)
      valued k lt asked true ex = unlike_is (bits k e.name) (lane result k)
          ∙ (ap (λ s. inverted_if (lane result k) (copied_bit l good k s)) named
          ∙ (changed e.kind (map (signal c) e.args) k gate_is lt ex
          ∙ ap (value e.kind) (turned_see k lt ex)))
      valued k lt asked false off =
          let none : lane result k ≡ false = nothing (lane result k) refl in
          let stuck : bits k n ≡ f.stuck = sym (here k)
          ∙ same_off (copied_bit l good k carried) f.stuck (lane mask k) (sym (is k lt) ∙ off) asked
          in ap (unlike (bits k e.name)) none
          ∙ (unlike_false (bits k e.name) ∙ ((solves k lt).gate e.name e.kind e.args stands
          ∙ (ap (λ g. value e.kind (pins_see None (bits k) g e.args)) named
          ∙ ap (value e.kind) (plain_see k stuck))))
        where
          nothing : (b : Bool) → lane result k ≡ b → lane result k ≡ false
          nothing true on = absurd (false≢true (sym off ∙ less k on))
          nothing false on = on

    pub pin_comes : HaveCome c tests l group f mask gate result
    pin_comes k lt asked =
        let e = pin_enters m c f gate pin at on in
        pin_reached c well (lane_test tests l group k) f (bits k) (solves k lt) gate pin on e.0 e.1
        (lane result k) (valued e.0 e.1 k lt asked (lane excited k) refl)

-- a fault that has reached a signal has reached the stem
pub come_to_stem : (c : List Statement) (tests : List Test) (l : Layout) (group : ℕ → ℕ) (f : Fault)
    (mask s stem arrived word : ℕ) → HaveCome c tests l group f mask s arrived
    → CarryFlip c tests l group s stem word
    → HaveCome c tests l group f mask stem (bit_and arrived word)
come_to_stem c tests l group f mask s stem arrived word come carried k lt asked = (
  λ d. (let at = (come k lt asked).0 d in
      let on = (carried k lt).0 at.1 in
      (lanes_both arrived word k at.0 on.0, on.1)),
  λ p. (come k lt asked).1 (
    lanes_first arrived word k p.0,
    (carried k lt).1 (lanes_second arrived word k p.0, p.1),
  ),
)

-- one that has reached it in no lane has reached the next in none
pub come_nowhere : (c : List Statement) (tests : List Test) (l : Layout) (group : ℕ → ℕ) (f : Fault)
    (mask s stem arrived word : ℕ) → HaveCome c tests l group f mask s arrived
    → ((k : ℕ) → lane arrived k ≡ false) → ((k : ℕ) → lane word k ≡ false)
    → HaveCome c tests l group f mask stem word
come_nowhere c tests l group f mask s stem arrived word come none empty k lt asked = (
  λ d. absurd (false≢true (sym (none k) ∙ ((come k lt asked).0 d).0)),
  λ p. absurd (false≢true (sym (empty k) ∙ p.0)),
)

-- ---- the first signal that a fault can complement
-- it stands in the circuit
pub start_within : (m : Model) (c : List Statement) → IsWellFormed c → (f : Fault)
    → Contains (faults m c) f → (s : ℕ) → start_of f.line ≡ Some s → s < length (names c)
start_within m c well f at s from = let n = carries m c f well at in go n.0 f.line n.1 from
  where
    go : (n : Name) (l : Line) → name_on c l ≡ Some n → start_of l ≡ Some s → s < length (names c)
    go n (line.Stem x) on e =
        let same : x ≡ s = cc in subst (λ y. y < length (names c)) same
        (place_within (names c) x n on)
    go n (line.Pin gate pin) on e =
        let same : gate ≡ s = cc in subst (λ y. y < length (names c)) same
        (gate_within c gate pin n on)
    go n (line.Data cell) on e = let bad : None ≡ Some s = e in cc
    go n (line.Out output) on e = let bad : None ≡ Some s = e in cc

-- If it complements the stem in no lane, the fault reaches the stem in none.
pub come_to_dead : (c : List Statement) → IsWellFormed c → (tests : List Test) (l : Layout)
    (group : ℕ → ℕ) (m : Model) (f : Fault) → Contains (faults m c) f → (mask s stem word : ℕ)
    → start_of f.line ≡ Some s → CarryFlip c tests l group s stem word
    → ((k : ℕ) → lane word k ≡ false) → HaveCome c tests l group f mask stem word
come_to_dead c well tests l group m f at mask s stem word from carried none k lt asked = (
  λ d. (let shown = (fault_law c well m f (lane_test tests l group k) s at from).0 d in
      absurd (false≢true (sym (none k) ∙ ((carried k lt).0 shown.1).0))),
  λ p. absurd (false≢true (sym (none k) ∙ p.0)),
)
