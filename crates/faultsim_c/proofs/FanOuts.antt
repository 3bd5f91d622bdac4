-- The pins that read a signal: they are among the sinks of its name, and those of all signals are
-- as many as the pins of all gates.
use Rattle.std.proofs.Common.{◌≡◌, ◌<◌, ◌≤◌, ◌+◌, ◌∙◌, ◌==◌, ℕ, zero, suc, List, [], ◌∷◌, ◌++◌}
use Rattle.std.proofs.Common.{true, false, cond, length, map, filter, get_or, refl, sym, ap, subst}
use Rattle.std.proofs.Common.{arith, inl, inr, ◌⊎◌, append_assoc, length-append, set, take}
use Rattle.std.specs.Prelude.{Option, None, Some, bytes_eq, flat_map, slice_get}
use Rattle.std.{specs.List.enumerate_from, proofs.lemmas.Bool.Decides.nat_tests}
use Rattle.std.proofs.lemmas.{Bool.{cases_Bool, cases_lt, eq-eqb, eqb-true}, Grind.flat_map-append}
use Rattle.std.proofs.lemmas.List.{append-nil, take_more, take_more_set, Folds.length-flat_map-take}
use Rattle.bench_net.specs.declared.{Kind.Kind, Sink.Sink, Sink.TheVariants.{Pin, Data, Out}}
use Rattle.bench_net.specs.{Circuit.IsWellFormed, Scan.{places, signal, sinks}}
use Rattle.bench_net.specs.Scan.{definition, gate_line, gate_of, name_of, names, outputs, pins_of}
use Rattle.bench_net.specs.Statement.{Name, Statement, Input, Output, Gate, Dff, defines, read}
use Rattle.bench_net.proofs.Public.{bytes_refl, definition_defines, name_of-signal, read_named}
use Rattle.bench_net.proofs.Public.{same_bytes, signal-name_of}
use Rattle.list_lemmas.proofs.{Members.{Among, contained}, Places.at_place}
use Rattle.flat_circuit.proofs.Public.{pins_within}
use Rattle.faultsim_c.specs.Circuits.{all_pins, fan_in, fan_out, pins_read, pins_reading}
use Rattle.faultsim_c.specs.{Circuits.rows_before, declared.circuit.FsPin.FsPin}

-- ---- the pins among sinks

abbrev pub pin : ℕ → ℕ → FsPin
pin g p = record { gate = g; pin = p }

-- the pin of a gate that a sink is, or nothing
abbrev pub own_pin : Sink → List FsPin
own_pin (Pin g p) = pin g p ∷ []
own_pin (Data i) = []
own_pin (Out o) = []

-- the sinks that are pins of gates, in order
abbrev pub pins_among : List Sink → List FsPin
pins_among ks = flat_map own_pin ks

outputs_none : (os : List ℕ) → pins_among (map Out os) ≡ []
outputs_none [] = refl
outputs_none (o ∷ os) = outputs_none os

pins_each : (g : ℕ) (ps : List ℕ) → pins_among (map (λ p. Pin g p) ps) ≡ map (pin g) ps
pins_each g [] = refl
pins_each g (p ∷ ps) = ap (λ l. pin g p ∷ l) (pins_each g ps)

-- a name and a signal are the same for some arguments
abbrev AreAlike : List Statement → Name → ℕ → List Name → Type 0
AreAlike c n s args = (a : Name) → Among a args → bytes_eq n a ≡ (signal c a == s)

-- the places of the name among arguments are those of the signal
alike_places : (c : List Statement) (n : Name) (s g from : ℕ) (args : List Name)
    → AreAlike c n s args
    → map (pin g) (map (λ at. at.0) (filter (λ at. bytes_eq n at.1) (enumerate_from from args)))
    ≡ map (λ at. pin g at.0) (filter (λ at. at.1 == s) (enumerate_from from (map (signal c) args)))
alike_places c n s g from [] alike = refl
alike_places c n s g from (a ∷ args) alike =
    let rest = alike_places c n s g (from + 1) args (λ b h. alike b (inr h)) in
    elim (cases_Bool (bytes_eq n a)) [
      | inl on ↦ (let same : (signal c a == s) ≡ true = sym (alike a (inl refl)) ∙ on in
          rw (on, same) (ap (λ l. pin g from ∷ l) rest))
      | inr off ↦ (let same : (signal c a == s) ≡ false = sym (alike a (inl refl)) ∙ off in
          rw (off, same) rest)
    ]

-- the pins of one statement that read a signal
abbrev reading_of : List Statement → ℕ → Statement → List FsPin
reading_of c s (Gate g kind args) = pins_reading s (signal c g) (map (signal c) args)
reading_of c s _ = []

statement_pins : (c : List Statement) (n : Name) (s : ℕ) (st : Statement)
    → AreAlike c n s (read st) → pins_among (pins_of c n st) ≡ reading_of c s st
statement_pins c n s (Input m) alike = refl
statement_pins c n s (Output m) alike = refl
statement_pins c n s (Gate g kind args) alike = pins_each (signal c g) (places n args)
    ∙ alike_places c n s (signal c g) 0 args alike
statement_pins c n s (Dff q d) alike = elim (cases_Bool (bytes_eq n d)) [
  | inl on ↦ rw on refl
  | inr off ↦ rw off refl
]

-- those of all statements: only statements that define a signal have any
statements_pins : (c xs : List Statement) (n : Name) (s : ℕ)
    → ((st : Statement) → Among st xs → AreAlike c n s (read st))
    → pins_among (flat_map (pins_of c n) xs) ≡ flat_map (reading_of c s) (filter defines xs)
statements_pins c [] n s alike = refl
statements_pins c (x ∷ xs) n s alike =
    let rest = statements_pins c xs n s (λ st a. alike st (inr a)) in
    let own = statement_pins c n s x (alike x (inl refl)) in
    flat_map-append own_pin (pins_of c n x) (flat_map (pins_of c n) xs)
    ∙ (ap (λ l. l ++ pins_among (flat_map (pins_of c n) xs)) own
    ∙ (ap (λ l. reading_of c s x ++ l) rest ∙ kept x))
  where
    kept : (x : Statement) → reading_of c s x ++ flat_map (reading_of c s) (filter defines xs)
        ≡ flat_map (reading_of c s) (filter defines (x ∷ xs))
    kept (Input m) = refl
    kept (Output m) = refl
    kept (Gate g kind args) = refl
    kept (Dff q d) = refl

-- ---- rows of lists

-- the first row before the others
rows_first : {X : Type 0} (row : ℕ → List X) (k : ℕ)
    → rows_before row (suc k) ≡ row 0 ++ rows_before (λ i. row (suc i)) k
rows_first row zero = sym (append-nil (row 0))
rows_first row (suc k) = ap (λ l. l ++ row (suc k)) (rows_first row k)
    ∙ append_assoc (row 0) (rows_before (λ i. row (suc i)) k) (row (suc k))

-- rows that are the same one by one
rows_same : {X : Type 0} (f g : ℕ → List X) (k : ℕ) → ((i : ℕ) → i < k → f i ≡ g i)
    → rows_before f k ≡ rows_before g k
rows_same f g zero each = refl
rows_same f g (suc k) each =
    ap (λ l. l ++ f k) (rows_same f g k (λ i lt. each i (omega (arith, lt))))
    ∙ ap (λ l. rows_before g k ++ l) (each k (omega arith))

abbrev at_some : {X Y : Type 0} → (X → List Y) → Option X → List Y
at_some f None = []
at_some f (Some x) = f x

-- what a function gives of the items, as rows
joined_rows : {X Y : Type 0} (f : X → List Y) (xs : List X)
    → flat_map f xs ≡ rows_before (λ i. at_some f (slice_get xs i)) (length xs)
joined_rows f [] = refl
joined_rows f (x ∷ xs) = ap (λ l. f x ++ l) (joined_rows f xs)
    ∙ sym (rows_first (λ i. at_some f (slice_get (x ∷ xs) i)) (length xs))

definition_count : (c : List Statement) → length (filter defines c) ≡ length (names c)
definition_count [] = refl
definition_count (Input m ∷ c) = ap (λ n. suc n) (definition_count c)
definition_count (Output m ∷ c) = definition_count c
definition_count (Gate g kind args ∷ c) = ap (λ n. suc n) (definition_count c)
definition_count (Dff q d ∷ c) = ap (λ n. suc n) (definition_count c)

-- ---- the fan-out of a signal

module _ (c : List Statement) (well : IsWellFormed c) where
  -- the pins of a number's gate that read a signal
  row_of_number : (s i : ℕ)
      → at_some (reading_of c s) (definition c i) ≡ pins_reading s i (fan_in c i)
  row_of_number s i = go (definition c i) refl
    where
      go : (o : Option Statement) → definition c i ≡ o
          → at_some (reading_of c s) o ≡ pins_reading s i (pins_read (gate_line c o))
      go None e = refl
      go (Some (Input m)) e = refl
      go (Some (Output m)) e = refl
      go (Some (Dff q d)) e = refl
      go (Some (Gate g kind args)) e =
          let p = definition_defines c i (Gate g kind args) e in
          let first : g ∷ [] ≡ p.0 ∷ [] = p.1 in
          let same : g ≡ p.0 = cc in
          let named : name_of c i ≡ Some g = p.2 ∙ ap Some (sym same) in
          let number : signal c g ≡ i = signal-name_of c i g well.once named
          (contained (names c) g (at_place (names c) i g named)) in
          ap (λ j. pins_reading s j (map (signal c) args)) number

  module _ (n : Name) (s : ℕ) (named : name_of c s ≡ Some n) where
    alike : (st : Statement) → Among st c → AreAlike c n s (read st)
    alike st stands a reads =
        let there = name_of-signal c a (read_named c st a well stands reads) in
        let here : signal c n ≡ s = signal-name_of c s n well.once named
        (contained (names c) n (at_place (names c) s n named)) in
        elim (cases_Bool (bytes_eq n a)) [
          | inl on ↦ (let same : n ≡ a = same_bytes n a on in
              let number : signal c a ≡ s = ap (signal c) (sym same) ∙ here in
              on ∙ sym (eq-eqb (signal c a) s number))
          | inr off ↦ elim (cases_Bool (signal c a == s)) [
            | inl equal ↦ (let number : signal c a ≡ s = eqb-true (signal c a) s equal in
                let is : Some a ≡ Some n = sym there ∙ (ap (name_of c) number ∙ named) in
                let same : a ≡ n = cc in
                let on : bytes_eq n a ≡ true = ap (bytes_eq n) same ∙ bytes_refl n in
                let bad : true ≡ false = sym on ∙ off in
                cc)
            | inr other ↦ off ∙ sym other
          ]
        ]

    sinks_fan_out : pins_among (sinks c n) ≡ fan_out c s
    sinks_fan_out =
        let pins = flat_map (pins_of c n) c in
        let outs = places n (outputs c) in
        flat_map-append own_pin pins (map Out outs)
        ∙ (ap (λ l. pins_among pins ++ l) (outputs_none outs) ∙ (append-nil (pins_among pins)
        ∙ (statements_pins c c n s alike ∙ (joined_rows (reading_of c s) (filter defines c)
        ∙ (ap (rows_before (λ i. at_some (reading_of c s) (definition c i))) (definition_count c)
        ∙ rows_same (λ i. at_some (reading_of c s) (definition c i))
        (λ i. pins_reading s i (fan_in c i)) (length (names c)) (λ i lt. row_of_number s i))))))

-- the pins among the sinks of a name are the fan-out of its signal
pub among_fan_out : (c : List Statement) (n : Name) (s : ℕ) (ks : List Sink) → IsWellFormed c
    → Some n ≡ name_of c s → ks ≡ sinks c n → pins_among ks ≡ fan_out c s
among_fan_out c n s ks well named are = ap (λ l. pins_among l) are
    ∙ sinks_fan_out c well n s (sym named)

-- ---- the number of pins

abbrev sum_to : (ℕ → ℕ) → ℕ → ℕ
sum_to f zero = zero
sum_to f (suc k) = sum_to f k + f k

rows_length : {X : Type 0} (row : ℕ → List X) (k : ℕ)
    → length (rows_before row k) ≡ sum_to (λ i. length (row i)) k
rows_length row zero = refl
rows_length row (suc k) = length-append (rows_before row k) (row k)
    ∙ ap (λ n. n + length (row k)) (rows_length row k)

sums_same : (f g : ℕ → ℕ) (k : ℕ) → ((i : ℕ) → i < k → f i ≡ g i) → sum_to f k ≡ sum_to g k
sums_same f g zero each = refl
sums_same f g (suc k) each =
    let rest = sums_same f g k (λ i lt. each i (omega (arith, lt))) in
    let own = each k (omega arith) in
    omega (arith, rest, own)

sums_none : (k : ℕ) → sum_to (λ i. 0) k ≡ 0
sums_none zero = refl
sums_none (suc k) = omega (arith, sums_none k)

sums_added : (f g : ℕ → ℕ) (k : ℕ) → sum_to (λ i. f i + g i) k ≡ sum_to f k + sum_to g k
sums_added f g zero = omega arith
sums_added f g (suc k) = let rest = sums_added f g k in omega (arith, rest)

sums_turned : (m : ℕ → ℕ → ℕ) (j k : ℕ)
    → sum_to (λ s. sum_to (m s) k) j ≡ sum_to (λ g. sum_to (λ s. m s g) j) k
sums_turned m j zero = sums_none j
sums_turned m j (suc k) = sums_added (λ s. sum_to (m s) k) (λ s. m s k) j
    ∙ ap (λ n. n + sum_to (λ s. m s k) j) (sums_turned m j k)

-- a number is none of those below it, and one of those below a greater one
none_below : (x k : ℕ) → k ≤ x → sum_to (λ s. cond (x == s) 1 0) k ≡ 0
none_below x zero le = refl
none_below x (suc k) le =
    let rest = none_below x k (omega (arith, le)) in
    let own : ◌≡◌ {A = ℕ} (cond (x == k) 1 0) 0 = grind (arith, nat_tests) in
    omega (arith, rest, own)

one_below : (x k : ℕ) → x < k → sum_to (λ s. cond (x == s) 1 0) k ≡ 1
one_below x zero lt = absurd (omega (arith, lt))
one_below x (suc k) lt = go (one_below x k) (cases_lt x k)
  where
    go : (x < k → sum_to (λ s. cond (x == s) 1 0) k ≡ 1) → (x < k) ⊎ (k ≤ x)
        → sum_to (λ s. cond (x == s) 1 0) (suc k) ≡ 1
    go before (inl low) =
        let rest = before low in
        let own : ◌≡◌ {A = ℕ} (cond (x == k) 1 0) 0 = grind (arith, nat_tests) in
        omega (arith, rest, own)
    go before (inr high) =
        let rest = none_below x k high in
        let own : ◌≡◌ {A = ℕ} (cond (x == k) 1 0) 1 = grind (arith, nat_tests) in
        omega (arith, rest, own)

-- the pins of a gate that read a signal, if the first pin has this number
abbrev pins_from : ℕ → ℕ → ℕ → List ℕ → List FsPin
pins_from s g from reads = map (λ at. pin g at.0)
    (filter (λ at. at.1 == s) (enumerate_from from reads))

one_more : (s g from x : ℕ) (xs : List ℕ) → length (pins_from s g from (x ∷ xs))
    ≡ cond (x == s) 1 0 + length (pins_from s g (from + 1) xs)
one_more s g from x xs = elim (cases_Bool (x == s)) [
  | inl on ↦ rw on (omega arith)
  | inr off ↦ rw off (omega arith)
]

-- each pin of a gate reads one signal
each_once : (n g from : ℕ) (xs : List ℕ) → ((x : ℕ) → Among x xs → x < n)
    → sum_to (λ s. length (pins_from s g from xs)) n ≡ length xs
each_once n g from [] below = sums_none n
each_once n g from (x ∷ xs) below =
    let more = sums_same (λ s. length (pins_from s g from (x ∷ xs)))
    (λ s. cond (x == s) 1 0 + length (pins_from s g (from + 1) xs)) n
    (λ s lt. one_more s g from x xs) in
    let both = sums_added (λ s. cond (x == s) 1 0) (λ s. length (pins_from s g (from + 1) xs)) n in
    let own = one_below x n (below x (inl refl)) in
    let rest = each_once n g (from + 1) xs (λ y a. below y (inr a)) in
    omega (arith, more, both, own, rest)

-- a pin reads a signal of the circuit
fan_in_within : (c : List Statement) (g p : ℕ) → IsWellFormed c → Among p (fan_in c g)
    → p < length (names c)
fan_in_within c g p well a = go (gate_of c g) refl a
  where
    go : (o : Option (Kind × List ℕ)) → gate_of c g ≡ o → Among p (pins_read o)
        → p < length (names c)
    go None e h = absurd h
    go (Some (kind, pins)) e h =
        let at = contained pins p h in
        subst (λ (x : ℕ). x < length (names c)) at.2 (pins_within c g kind pins well e at.0 p at.1)

-- all fan-outs together have as many pins as all gates
pub fan_outs_count : (c : List Statement) → IsWellFormed c
    → length (rows_before (fan_out c) (length (names c))) ≡ length (all_pins c)
fan_outs_count c well =
    let n = length (names c) in
    rows_length (fan_out c) n ∙ (sums_same (λ s. length (fan_out c s))
    (λ s. sum_to (λ g. length (pins_reading s g (fan_in c g))) n) n
    (λ s lt. rows_length (λ g. pins_reading s g (fan_in c g)) n)
    ∙ (sums_turned (λ s g. length (pins_reading s g (fan_in c g))) n n
    ∙ (sums_same (λ g. sum_to (λ s. length (pins_reading s g (fan_in c g))) n)
    (λ g. length (fan_in c g)) n
    (λ g lt. each_once n g 0 (fan_in c g) (λ p a. fan_in_within c g p well a))
    ∙ sym (rows_length (fan_in c) n))))

-- ---- the pins that are written

-- the pins among the sinks up to one, and one more
pins_more : (ks : List Sink) (i : ℕ) (k d : Sink) → i < length ks → get_or ks i d ≡ k
    → pins_among (take (i + 1) ks) ≡ pins_among (take i ks) ++ own_pin k
pins_more ks i k d lt at = ap (λ l. pins_among l) (take_more ks i d lt)
    ∙ (flat_map-append own_pin (take i ks) (get_or ks i d ∷ [])
    ∙ (ap (λ l. pins_among (take i ks) ++ l) (append-nil (own_pin (get_or ks i d)))
    ∙ ap (λ x. pins_among (take i ks) ++ own_pin x) at))

-- they are no more than the pins among all
pins_room : (ks : List Sink) (i : ℕ) (k d : Sink) → i < length ks → get_or ks i d ≡ k
    → length (pins_among (take i ks)) + length (own_pin k) ≤ length (pins_among ks)
pins_room ks i k d lt at =
    let room = length-flat_map-take own_pin ks i d lt in
    let own : length (own_pin (get_or ks i d)) ≡ length (own_pin k) =
    ap (λ x. length (own_pin x)) at in
    omega (arith, room, own)

-- there is room for one of the pins of a fan-out
pub room_for_pin : (c : List Statement) (n : Name) (s : ℕ) (ks : List Sink)
    → IsWellFormed c → Some n ≡ name_of c s → ks ≡ sinks c n
    → (i : ℕ) (k d : Sink) → i < length ks → get_or ks i d ≡ k → 0 < length (own_pin k)
    → (place next : ℕ) → next ≡ place + length (pins_among (take i ks))
    → (room : ℕ) → place + length (fan_out c s) ≤ room → next < room
room_for_pin c n s ks well named are i k d lt at some place next here room within =
    let count = ap (λ (l : List FsPin). length l) (among_fan_out c n s ks well named are) in
    let before = pins_room ks i k d lt at in
    omega (arith, count, before, some, here, within)

-- one pin more after a row
pub pin_count_more : (ks : List Sink) (i g p : ℕ) (d : Sink) → i < length ks
    → get_or ks i d ≡ Pin g p
    → length (pins_among (take (i + 1) ks)) ≡ length (pins_among (take i ks)) + 1
pin_count_more ks i g p d lt at = ap (λ l. length l) (pins_more ks i (Pin g p) d lt at)
    ∙ length-append (pins_among (take i ks)) (pin g p ∷ [])

pub pin_put : (old pins : List FsPin) (ks : List Sink) (i g p place next : ℕ) (d : Sink)
    → i < length ks → get_or ks i d ≡ Pin g p → next < length pins
    → take next pins ≡ take place old ++ pins_among (take i ks)
    → take (next + 1) (set pins next (pin g p)) ≡ take place old ++ pins_among (take (i + 1) ks)
pin_put old pins ks i g p place next d lt at room rows = take_more_set pins next (pin g p) room
    ∙ (ap (λ l. l ++ pin g p ∷ []) rows
    ∙ (append_assoc (take place old) (pins_among (take i ks)) (pin g p ∷ [])
    ∙ ap (λ l. take place old ++ l) (sym (pins_more ks i (Pin g p) d lt at))))

-- a sink that is no pin adds none
no_pin : (k : Sink) → ((g p : ℕ) → k ≡ Pin g p → ⊥) → own_pin k ≡ []
no_pin (Pin g p) none = absurd (none g p refl)
no_pin (Data i) none = refl
no_pin (Out o) none = refl

pub none_put : (ks : List Sink) (i : ℕ) (d : Sink) → i < length ks
    → ((g p : ℕ) → get_or ks i d ≡ Pin g p → ⊥)
    → pins_among (take (i + 1) ks) ≡ pins_among (take i ks)
none_put ks i d lt none =
    let k = get_or ks i d in
    pins_more ks i k d lt refl
    ∙ (ap (λ l. pins_among (take i ks) ++ l) (no_pin k none) ∙ append-nil (pins_among (take i ks)))
