-- The rows of the pins that block some fault, pin by pin.
use Rattle.std.proofs.Common.{◌≡◌, ◌≢◌, ◌<◌, ◌≤◌, ◌+◌, ◌*◌, ◌∙◌, ℕ, refl, sym, ap, subst, Bool}
use Rattle.std.proofs.Common.{true, List, [], ◌∷◌, ◌++◌, length, arith, inl, inr, get_or, map, ◌⊎◌}
use Rattle.std.specs.Prelude.{◌/◌, ◌%◌, All, AllPairs, Contains, None, Some, slice_get}
use Rattle.std.specs.{Prelude.slice_index_or, Bool.Decides}
use Rattle.std.proofs.lemmas.List.{get_or-append-add, get_or_append_left, length-append, length-map}
use Rattle.std.proofs.lemmas.List.Elements.{All-append, All-nil}
use Rattle.std.proofs.lemmas.Option.{get_or_from_slice_get, slice_get-get_or}
use Rattle.list_lemmas.proofs.Members.{Among, among, among_left, among_right, contained}
use Rattle.list_lemmas.proofs.Places.{at_place, place_within, placed, within_place}
use Rattle.bench_net.specs.{declared.Kind.Kind, Circuit.IsWellFormed, Scan.{gate_of, signal}}
use Rattle.block_sim.{specs.Parts.Parts, proofs.Public.gate_named_of_signal_equations}
use Rattle.flat_circuit.specs.{BlockSpans.groups, Words.lane}
use Rattle.blocking_pins.specs.declared.{gate_pins.GatePin.GatePin, pins.BlockingPin.BlockingPin}
use Rattle.blocking_pins.{specs.declared.tally.PinCount.PinCount, proofs.PinLists.append_at}
use Rattle.blocking_pins.specs.Blocking.{BlocksFault, BlocksSome, BlocksSometimes, ComesBefore}
use Rattle.blocking_pins.specs.Blocking.{HaveCount, IsBlockingPin, controlling}
use Rattle.blocking_pins.specs.Counting.{AreListedPins, HasBit, IsTallyBelow}
use Rattle.blocking_pins.specs.Effects.{AreAllPins, IsBefore, IsGatePin}
use Rattle.blocking_pins.proofs.Counts.{count_found, count_same, count_some}

-- a row is that of a pin
abbrev pub IsRowOf : BlockingPin → GatePin → Type 0
IsRowOf row at = (row.gate ≡ at.gate) × (row.pin ≡ at.pin)

-- the rows of the pins before a place of the list
pub record AreListedBelow (job : Parts) (pins : List GatePin) (end : ℕ)
    (rows : List BlockingPin) : Type 0 where
  pub each : All (IsBlockingPin job) rows
  pub from : (row : BlockingPin) → Among row rows → (i : ℕ) × (at : GatePin) × (i < end)
      × (slice_get pins i ≡ Some at) × IsRowOf row at
  pub all : (i fault t : ℕ) (at : GatePin) → i < end → slice_get pins i ≡ Some at
      → BlocksFault job at.gate at.pin fault t
      → (row : BlockingPin) × Among row rows × IsRowOf row at
  pub ordered : AllPairs ComesBefore rows

before_or : (i n : ℕ) → i < n + 1 → (i < n) ⊎ (i ≡ n)
before_or i n lt = grind (arith, lt)

same_some : {X : Type 0} (x y : X) → Some x ≡ Some y → x ≡ y
same_some x y e = cc

pub listed_none : (job : Parts) (pins : List GatePin) → AreListedBelow job pins 0 []
listed_none job pins = record {
  each = All-nil (IsBlockingPin job);
  from = λ row a. absurd a;
  all = λ i fault t at lt. absurd (omega (arith, lt));
  ordered = λ i j d lt len. absurd (omega (arith, len));
}

-- a pin of a lower place comes before
before_place : (pins : List GatePin) → AllPairs IsBefore pins → (i j : ℕ) (a b : GatePin)
    → i < j → slice_get pins i ≡ Some a → slice_get pins j ≡ Some b → IsBefore a b
before_place pins ordered i j a b lt here there =
    subst (λ x. IsBefore x b) (get_or_from_slice_get pins i a a here)
    (subst (IsBefore (get_or pins i a)) (get_or_from_slice_get pins j b a there)
    (ordered i j a lt (place_within pins j b there)))

row_before : (a b : BlockingPin) (x y : GatePin) → IsRowOf a x → IsRowOf b y → IsBefore x y
    → ComesBefore a b
row_before a b x y is own (inl lt) =
    let g = is.0 in let h = own.0 in inl (omega (arith, lt, g, h))
row_before a b x y is own (inr both) =
    let p = is.1 in let q = own.1 in let lt = both.1 in
    inr (is.0 ∙ (both.0 ∙ sym own.0), omega (arith, lt, p, q))

module _ (job : Parts) (pins : List GatePin) (end : ℕ) (rows : List BlockingPin) (at : GatePin)
    (here : slice_get pins end ≡ Some at) (h : AreListedBelow job pins end rows) where
  -- a pin that blocks nothing
  pub listed_same : ((fault t : ℕ) → BlocksFault job at.gate at.pin fault t → ⊥)
      → AreListedBelow job pins (end + 1) rows
  listed_same none = record {
    each = h.each;
    from = λ row a. let w = h.from row a in
        (w.0, w.1, (let lt = w.2 in omega (arith, lt)), w.3, w.4);
    all = λ i fault t x lt there b. go i fault t x there b (before_or i end lt);
    ordered = h.ordered;
  }
    where
      go : (i fault t : ℕ) (x : GatePin) → slice_get pins i ≡ Some x
          → BlocksFault job x.gate x.pin fault t → (i < end) ⊎ (i ≡ end)
          → (row : BlockingPin) × Among row rows × IsRowOf row x
      go i fault t x there b (inl lt) = h.all i fault t x lt there b
      go i fault t x there b (inr same) =
          let is : x ≡ at = same_some x at (sym there ∙ (ap (slice_get pins) same ∙ here)) in
          absurd (none fault t (subst (λ (y : GatePin). BlocksFault job y.gate y.pin fault t) is b))

  -- a pin that blocks some fault
  pub listed_more : (row : BlockingPin) → IsBlockingPin job row → IsRowOf row at
      → AllPairs IsBefore pins → AreListedBelow job pins (end + 1) (rows ++ row ∷ [])
  listed_more row own is pairs = record {
    each = All-append (IsBlockingPin job) rows (row ∷ []) h.each (λ k d lt. last k d lt);
    from = λ x a. from x (split x a);
    all = λ i fault t x lt there b. all i fault t x there b (before_or i end lt);
    ordered = λ i j d lt len. ordered i j d lt
        (append_at rows (row ∷ []) (get_or (rows ++ row ∷ []) i d) i
        (slice_get-get_or (rows ++ row ∷ []) i d (omega (arith, lt, len))))
        (append_at rows (row ∷ []) (get_or (rows ++ row ∷ []) j d) j
        (slice_get-get_or (rows ++ row ∷ []) j d len));
  }
    where
      last : (k : ℕ) (d : BlockingPin) → k < length (row ∷ [])
          → IsBlockingPin job (get_or (row ∷ []) k d)
      last k d lt = let first : k ≡ 0 = omega (arith, lt) in
          subst (λ x. IsBlockingPin job (get_or (row ∷ []) x d)) (sym first) own

      split : (x : BlockingPin) → Among x (rows ++ row ∷ []) → Among x rows ⊎ (x ≡ row)
      split x a = let p = placed (rows ++ row ∷ []) x a in
          by x (append_at rows (row ∷ []) x p.0 p.1)
        where
          by : (x : BlockingPin) → {i : ℕ} → (slice_get rows i ≡ Some x)
              ⊎ ((j : ℕ) × (i ≡ length rows + j) × (slice_get (row ∷ []) j ≡ Some x))
              → Among x rows ⊎ (x ≡ row)
          by x {i} (inl e) = inl (at_place rows i x e)
          by x {i} (inr w) = inr (only w.0 w.2)
            where
              only : (j : ℕ) → slice_get (row ∷ []) j ≡ Some x → x ≡ row
              only j e =
                  let lt = place_within (row ∷ []) j x e in
                  let first : j ≡ 0 = omega (arith, lt) in
                  same_some x row (sym e ∙ ap (slice_get (row ∷ [])) first)

      from : (x : BlockingPin) → Among x rows ⊎ (x ≡ row) → (i : ℕ) × (y : GatePin)
          × (i < end + 1) × (slice_get pins i ≡ Some y) × IsRowOf x y
      from x (inl a) = let w = h.from x a in
          (w.0, w.1, (let lt = w.2 in omega (arith, lt)), w.3, w.4)
      from x (inr e) = (end, at, omega arith, here, subst (λ y. IsRowOf y at) (sym e) is)

      all : (i fault t : ℕ) (x : GatePin) → slice_get pins i ≡ Some x
          → BlocksFault job x.gate x.pin fault t → (i < end) ⊎ (i ≡ end)
          → (y : BlockingPin) × Among y (rows ++ row ∷ []) × IsRowOf y x
      all i fault t x there b (inl lt) = let w = h.all i fault t x lt there b in
          (w.0, among_left rows (row ∷ []) w.0 w.1, w.2)
      all i fault t x there b (inr same) =
          let e : x ≡ at = same_some x at (sym there ∙ (ap (slice_get pins) same ∙ here)) in
          (row, among_right rows (row ∷ []) row (inl refl), subst (IsRowOf row) (sym e) is)

      ordered : (i j : ℕ) (d : BlockingPin) → i < j
          → (slice_get rows i ≡ Some (get_or (rows ++ row ∷ []) i d))
          ⊎ ((k : ℕ) × (i ≡ length rows + k)
          × (slice_get (row ∷ []) k ≡ Some (get_or (rows ++ row ∷ []) i d)))
          → (slice_get rows j ≡ Some (get_or (rows ++ row ∷ []) j d))
          ⊎ ((k : ℕ) × (j ≡ length rows + k)
          × (slice_get (row ∷ []) k ≡ Some (get_or (rows ++ row ∷ []) j d)))
          → ComesBefore (get_or (rows ++ row ∷ []) i d) (get_or (rows ++ row ∷ []) j d)
      ordered i j d lt (inl a) (inl b) = subst (λ x. ComesBefore x (get_or (rows ++ row ∷ []) j d))
          (get_or_from_slice_get rows i (get_or (rows ++ row ∷ []) i d) d a)
          (subst (ComesBefore (get_or rows i d))
          (get_or_from_slice_get rows j (get_or (rows ++ row ∷ []) j d) d b)
          (h.ordered i j d lt (place_within rows j (get_or (rows ++ row ∷ []) j d) b)))
      ordered i j d lt (inl a) (inr b) =
          let x = get_or (rows ++ row ∷ []) i d in
          let y = get_or (rows ++ row ∷ []) j d in
          let w = h.from x (at_place rows i x a) in
          let low = place_within (row ∷ []) b.0 y b.2 in
          let first : b.0 ≡ 0 = omega (arith, low) in
          let e : y ≡ row = same_some y row (sym b.2 ∙ ap (slice_get (row ∷ [])) first) in
          subst (ComesBefore x) (sym e) (row_before x row w.1 at w.4 is
          (before_place pins pairs w.0 end w.1 at w.2 w.3 here))
      ordered i j d lt (inr a) (inl b) =
          let low = place_within rows j (get_or (rows ++ row ∷ []) j d) b in
          let e = a.1 in absurd (omega (arith, low, e, lt))
      ordered i j d lt (inr a) (inr b) =
          let one = place_within (row ∷ []) a.0 (get_or (rows ++ row ∷ []) i d) a.2 in
          let two = place_within (row ∷ []) b.0 (get_or (rows ++ row ∷ []) j d) b.2 in
          let e = a.1 in let f = b.1 in absurd (omega (arith, one, two, e, f, lt))

-- the rows of all pins
pub listed_all : (job : Parts) (pins : List GatePin) (end : ℕ) (rows : List BlockingPin)
    → AreAllPins job.circuit pins → length pins ≤ end → AreListedBelow job pins end rows
    → ((gate pin fault t : ℕ) → BlocksFault job gate pin fault t → (kind : Kind)
    × (reads : List ℕ) × (gate_of job.circuit gate ≡ Some (kind, reads)) × (pin < length reads))
    → AreListedPins job rows
listed_all job pins end rows are le h driven = record {
  each = h.each;
  all = λ gate pin fault t b.
      let d = driven gate pin fault t b in
      let one : GatePin = record { gate = gate; pin = pin } in
      let there = placed pins one (among pins one (are.all gate pin d.0 d.1 d.2 d.3)) in
      let lt = place_within pins there.0 one there.1 in
      let w = h.all there.0 fault t one (omega (arith, lt, le)) there.1 b in
      (w.0, contained rows w.0 w.1, w.2.0, w.2.1);
  ordered = h.ordered;
}

-- a gate that blocks is a gate of the circuit, with the pin
pub blocks_driven : (job : Parts) → IsWellFormed job.circuit → (gate pin fault t : ℕ)
    → BlocksFault job gate pin fault t → (kind : Kind) × (reads : List ℕ)
    × (gate_of job.circuit gate ≡ Some (kind, reads)) × (pin < length reads)
    × (bit : Bool) × (controlling kind ≡ Some bit)
blocks_driven job well gate pin fault t b =
    let own = b.3.2 in
    let low = place_within own.args pin own.read own.at in
    let long = length-map own.args (signal job.circuit) in (
      own.kind,
      map (signal job.circuit) own.args,
      gate_named_of_signal_equations job.circuit own.name own.kind own.args gate well own.number
          own.stands,
      omega (arith, low, long),
      own.bit,
      own.controls,
    )

-- a test of a pin's lanes
bit_blocks : (job : Parts) (pins : List GatePin) (counts : List PinCount) (rows : List (List ℕ))
    → IsTallyBelow job pins (length job.list.list) counts rows → (i : ℕ) (at : GatePin)
    → slice_get pins i ≡ Some at → (t : ℕ) → HasBit rows i t → BlocksSome job at.gate at.pin t
bit_blocks job pins counts rows h i at here t b =
    let low : t % 128 < 128 = omega arith in
    let whole : 128 * (t / 128) + t % 128 ≡ t = omega arith in
    let w = (h.lanes (t / 128) i (t % 128) b.0 at b.1 here low).0 b.2 in
    (w.0, subst (BlocksFault job at.gate at.pin w.0) whole w.2)

blocks_bit : (job : Parts) (pins : List GatePin) (counts : List PinCount) (rows : List (List ℕ))
    → IsTallyBelow job pins (length job.list.list) counts rows → (i : ℕ) (at : GatePin)
    → slice_get pins i ≡ Some at → (t : ℕ) → BlocksSome job at.gate at.pin t → HasBit rows i t
blocks_bit job pins counts rows h i at here t b =
    let low : t % 128 < 128 = omega arith in
    let whole : 128 * (t / 128) + t % 128 ≡ t = omega arith in
    let in_tests = place_within job.tests.tests t b.1.3.0 b.1.3.1 in
    let room : length rows ≡ (length job.tests.tests + 127) / 128 = h.room in
    let row = within_place rows (t / 128) (omega (arith, in_tests, room)) in
    let in_list = place_within job.list.list b.0 b.1.0 b.1.1 in (
      row.0,
      row.1,
      (h.lanes (t / 128) i (t % 128) row.0 at row.1 here low).1 (
        b.0,
        in_list,
        subst (BlocksFault job at.gate at.pin b.0) (sym whole) b.1,
      ),
    )

-- the row of a pin that blocks some fault
pub pin_row : (job : Parts) (pins : List GatePin) (counts : List PinCount) (rows : List (List ℕ))
    → IsTallyBelow job pins (length job.list.list) counts rows → IsWellFormed job.circuit
    → (i : ℕ) (at : GatePin) (count : PinCount) → slice_get pins i ≡ Some at
    → slice_get counts i ≡ Some count → (row : BlockingPin) → IsRowOf row at
    → row.faults ≡ count.faults → 0 < count.faults
    → HaveCount (HasBit rows i) (length job.tests.tests) row.tests
    → (kind : Kind) (reads : List ℕ) → gate_of job.circuit at.gate ≡ Some (kind, reads)
    → slice_get reads at.pin ≡ Some row.read
    → ((value : Bool) → controlling kind ≡ Some value → row.value ≡ value) → IsBlockingPin job row
pin_row job pins counts rows h well i at count here there row is faults some tests kind reads
    driven read value =
    let own = h.faults i at count here there in
    let found = count_found (BlocksSometimes job at.gate at.pin) (length job.list.list)
    count.faults own some in
    let b = blocks_driven job well at.gate at.pin found.0 found.2.0 found.2.1 in
    let pair : (b.0, b.1) ≡ (kind, reads) = same_some (b.0, b.1) (kind, reads) (sym b.2 ∙ driven) in
    let one_kind : b.0 ≡ kind = ap (λ (p : Kind × List ℕ). p.0) pair in
    let controls : controlling kind ≡ Some b.4 = ap controlling (sym one_kind) ∙ b.5 in
    record {
      kind = kind;
      pins = reads;
      driven = ap (gate_of job.circuit) is.0 ∙ driven;
      reads = ap (slice_get reads) is.1 ∙ read;
      controls = controls ∙ ap Some (sym (value b.4 controls));
      some = omega (arith, some, faults);
      faults = subst (λ g. HaveCount (BlocksSometimes job g row.pin) (length job.list.list)
          row.faults) (sym is.0)
          (subst (λ p. HaveCount (BlocksSometimes job at.gate p) (length job.list.list)
          row.faults) (sym is.1)
          (subst (HaveCount (BlocksSometimes job at.gate at.pin) (length job.list.list))
          (sym faults) own));
      tests = subst (λ g. HaveCount (BlocksSome job g row.pin) (length job.tests.tests) row.tests)
          (sym is.0)
          (subst (λ p. HaveCount (BlocksSome job at.gate p) (length job.tests.tests) row.tests)
          (sym is.1)
          (count_same (HasBit rows i) (BlocksSome job at.gate at.pin) (length job.tests.tests)
          row.tests (λ t lt x. bit_blocks job pins counts rows h i at here t x)
          (λ t lt x. blocks_bit job pins counts rows h i at here t x) tests));
    }

-- a pin without a fault
pub no_row : (job : Parts) (pins : List GatePin) (counts : List PinCount) (rows : List (List ℕ))
    → IsTallyBelow job pins (length job.list.list) counts rows → (i : ℕ) (at : GatePin)
    (count : PinCount) → slice_get pins i ≡ Some at → slice_get counts i ≡ Some count
    → count.faults ≤ 0 → (fault t : ℕ) → BlocksFault job at.gate at.pin fault t → ⊥
no_row job pins counts rows h i at count here there none fault t b =
    let lt = count_some (BlocksSometimes job at.gate at.pin) (length job.list.list) count.faults
    fault (h.faults i at count here there) (place_within job.list.list fault b.0 b.1) (t, b) in
    omega (arith, lt, none)
