-- Numbered statements with levels are a circuit with its tables, and without levels have an error.
use Rattle.std.proofs.Common.{◌≡◌, ◌<◌, ◌≤◌, ◌+◌, ◌^◌, ℕ, ap, List, [], ◌∷◌, ◌++◌, map, length}
use Rattle.std.proofs.Common.{filter, refl, arith, inl, inr, ◌⊎◌, length-append, ◌≢◌, ◌==◌, zero}
use Rattle.std.proofs.{Common.{suc, sym, ◌∙◌, subst, true, drop}, lemmas.Grind.common_steps}
use Rattle.std.specs.Prelude.{slice_index, flat_map, IsPermutation, Some, slice_get, Contains}
use Rattle.std.specs.Prelude.{AllPairs, bytes_eq, Option, None, slice_index_or}
use Rattle.std.proofs.lemmas.{Bool.Decides.nat_tests, List.Folds.length-flat_map-take}
use Rattle.std.proofs.lemmas.List.Sorted.{IsPermutation-refl, IsPermutation-trans}
use Rattle.std.proofs.lemmas.List.Sorted.{IsPermutation-middle, IsPermutation-append_right}
use Rattle.std.proofs.lemmas.List.Sorted.{length_permutation, All-permutation, IsPermutation-sym}
use Rattle.std.specs.List.{enumerate_from, filter_map, position_or_len}
use Rattle.std.proofs.lemmas.List.{length-map, map-append, append_assoc, get_or-map}
use Rattle.std.proofs.lemmas.List.Elements.{Contains-get_or, filter-append, All-contains}
use Rattle.std.proofs.lemmas.Option.{get_or_from_slice_get, slice_get-get_or, slice_get_within}
use Rattle.bench_net.specs.declared.{line.NumberedLine.NumberedLine, Sink.Sink, sinks.Reader.Reader}
use Rattle.bench_net.specs.{declared.Sink.TheVariants.{Pin, Out}, Tables.all_pins}
use Rattle.bench_net.specs.Statement.{Name, Statement, Dff, Output, defines, Gate}
use Rattle.bench_net.specs.Scan.{names, inputs, cells, sources, signal, gate_line, cell, outputs}
use Rattle.bench_net.specs.Scan.{pins_of, sinks, name_of, definition}
use Rattle.bench_net.specs.Stored.{statements_of, read_numbers, numbers, name_at, statement_of}
use Rattle.bench_net.specs.Stored.{AreStatements, AreRefused, IsFirstStuck}
use Rattle.bench_net.specs.Tables.{defines_number, output_number, signal_read, pin_readers}
use Rattle.bench_net.specs.Tables.{output_readers, line_readers, all_readers, PinsFit, input_number}
use Rattle.bench_net.specs.Tables.{cell_numbers, source_signals, sinks_at, line_gate, signals_in}
use Rattle.bench_net.proofs.Names.{same_bytes, bytes_refl, signal-name_of, name_of-signal}
use Rattle.bench_net.proofs.{Names.definition_defines, GateLevels.{has_depth, level_order}}
use Rattle.bench_net.proofs.GateLevels.{named, named_number, of_cell, pins, source_statement}
use Rattle.bench_net.proofs.GateLevels.{signal_below, not_stuck, stuck_name, numbering, has_level}
use Rattle.bench_net.{proofs.LevelSearch.greatest-at, specs.declared.tables.Tables.Tables}
use Rattle.bench_net.specs.declared.BenchFault.{BenchFault, TheVariants.{Memory, Cycle}}
use Rattle.bench_net.{specs.Circuit.{IsCircuit, sink_count}, proofs.LineTables.definition_count}
use Rattle.bench_net.specs.Marks.{pins_in, gate_pins, AreLevelsOf, IsLowestStuck, IsLevelFault}
use Rattle.bench_net.specs.Inside.{AreTableLines, AreTables, IsInside, IsPlace}
use Rattle.bench_net.proofs.NumberedLines.{reads_numbers, reads_held, known}
use Rattle.list_lemmas.proofs.Members.{Among, contained, among_left, among_right, among}
use Rattle.list_lemmas.proofs.{Members.{mapped_from, filtered_from, among_joined}, Places.at_place}
use Rattle.list_lemmas.proofs.Distinct.{Distinct, distinct_from_pairs}
use mathlib.Core.Path.{fun_ext}
use Rattle.bench_net.specs.declared.line.NumberedLine.TheVariants as line

-- ---- sources

few : (c : List Statement) → length (inputs c) + length (cells c) ≤ length (names c)
few [] = omega arith
few (Dff q d ∷ c) = omega (arith, few c)
few (_ ∷ c) = omega (arith, few c)

pub few_sources : (c : List Statement) → length (sources c) ≤ length (names c)
few_sources c = grind (arith, common_steps, few c)

-- ---- lines

-- each line defines or reads, and each line that defines has a name
pub counts : (ns : List Name) (lines : List NumberedLine)
    → (length lines ≤ length (filter defines_number lines) + length (flat_map read_numbers lines))
    × (length (filter defines_number lines) ≡ length (names (statements_of ns lines)))
counts ns [] = (omega arith, refl)
counts ns (_ ∷ lines) = let more = counts ns lines in grind (arith, common_steps, more)

-- a line reads no more than all lines do
line_count : (lines : List NumberedLine) (l : NumberedLine) → Contains lines l
    → length (read_numbers l) ≤ length (flat_map read_numbers lines)
line_count lines l (k, lt, is) = grind (arith, is, length-flat_map-take read_numbers lines k l lt)

-- the pins read no more than the lines
pin_count : (lines : List NumberedLine)
    → length (all_pins lines) ≤ length (flat_map read_numbers lines)
pin_count [] = omega arith
pin_count (line.Gate s g ∷ lines) = grind (arith, common_steps, pin_count lines)
pin_count (line.Input s ∷ lines) = pin_count lines
pin_count (line.Output s ∷ lines) = grind (arith, common_steps, pin_count lines)
pin_count (line.Dff q d ∷ lines) = grind (arith, common_steps, pin_count lines)

fits : (l : NumberedLine) → length (read_numbers l) < 2 ^ 32 → PinsFit l
fits (line.Gate s g) few = few
fits _ few = tt

-- ---- readers

-- numbered readers read the signals of their numbers
read_by : (kind : ℕ → Sink) (k : ℕ) (xs : List ℕ)
    → map signal_read (map (λ at. record { signal = at.1; sink = kind at.0 }) (enumerate_from k xs))
    ≡ xs
read_by kind k [] = refl
read_by kind k (x ∷ xs) = ap (λ ys. x ∷ ys) (read_by kind (k + 1) xs)

-- the readers read the names that the lines read, in another order
lines_read : (cell : ℕ) (lines : List NumberedLine)
    → IsPermutation (map signal_read (line_readers cell lines) ++ filter_map output_number lines)
    (flat_map read_numbers lines)
lines_read cell [] = IsPermutation-refl []
lines_read cell (line.Input s ∷ lines) = lines_read cell lines
lines_read cell (line.Output s ∷ lines) =
    IsPermutation-trans _ _ _ (IsPermutation-middle _ s (filter_map output_number lines))
    (IsPermutation-append_right (s ∷ []) _ _ (lines_read cell lines))
lines_read cell (line.Gate s g ∷ lines) =
    rw (map-append, read_by (Pin s) 0 g.pins.items, append_assoc)
    (IsPermutation-append_right g.pins.items _ _ (lines_read cell lines))
lines_read cell (line.Dff q d ∷ lines) =
    IsPermutation-append_right (d ∷ []) _ _ (lines_read (cell + 1) lines)

pub readers_read : (lines : List NumberedLine)
    → IsPermutation (map signal_read (all_readers lines (filter_map output_number lines)))
    (flat_map read_numbers lines)
readers_read lines =
    let outs = filter_map output_number lines in
    rw (map-append signal_read (line_readers 0 lines) (output_readers outs), read_by Out 0 outs)
    (lines_read 0 lines)

pub few_outputs : (lines : List NumberedLine)
    → length (filter_map output_number lines) ≤ length (flat_map read_numbers lines)
few_outputs lines =
    let outs = filter_map output_number lines in
    let first = map signal_read (line_readers 0 lines) in
    omega (arith, length_permutation _ _ (lines_read 0 lines), length-append first outs)

module _ (ns : List Name) (number : Name → ℕ) where
  -- each line holds the numbers of its statement's names
  abbrev pub AreRight : List NumberedLine → Type 0
  AreRight [] = Unit {0}
  AreRight (l ∷ ls) = (numbers l ≡ map number (map (name_at ns) (numbers l))) × AreRight ls

  -- ---- lists of signals

  pub inputs_are : (ls : List NumberedLine) → AreRight ls
      → filter_map input_number ls ≡ map number (inputs (statements_of ns ls))
  inputs_are [] are = refl
  inputs_are (line.Input s ∷ ls) (e, are) = let rest = inputs_are ls are in cc
  inputs_are (_ ∷ ls) (e, are) = inputs_are ls are

  pub outputs_are : (ls : List NumberedLine) → AreRight ls
      → filter_map output_number ls ≡ map number (outputs (statements_of ns ls))
  outputs_are [] are = refl
  outputs_are (line.Output s ∷ ls) (e, are) = let rest = outputs_are ls are in cc
  outputs_are (_ ∷ ls) (e, are) = outputs_are ls are

  pub cells_are : (ls : List NumberedLine) → AreRight ls
      → map {B = ℕ × ℕ} (λ cell. (cell.q, cell.d)) (filter_map cell_numbers ls)
      ≡ map (λ cell. (number cell.0, number cell.1)) (cells (statements_of ns ls))
  cells_are [] are = refl
  cells_are (line.Dff q d ∷ ls) (e, are) = let rest = cells_are ls are in cc
  cells_are (_ ∷ ls) (e, are) = cells_are ls are

  qs_are : (ls : List NumberedLine) → AreRight ls
      → map (λ cell. cell.q) (filter_map cell_numbers ls)
      ≡ map number (map (λ cell. cell.0) (cells (statements_of ns ls)))
  qs_are [] are = refl
  qs_are (line.Dff q d ∷ ls) (e, are) = let rest = qs_are ls are in cc
  qs_are (_ ∷ ls) (e, are) = qs_are ls are

  pub sources_are : (ls : List NumberedLine) → AreRight ls
      → source_signals ls ≡ map number (sources (statements_of ns ls))
  sources_are ls are =
      let c = statements_of ns ls in
      let all = map-append number (inputs c) (map (λ cell. cell.0) (cells c)) in
      rw (inputs_are ls are, qs_are ls are) (sym all)

-- ---- gates

pub gate_is : (ns : List Name) (whole : List Statement) (ls : List NumberedLine) (s : ℕ)
    → AreRight ns (signal whole) ls → line_gate (slice_get (filter defines_number ls) s)
    ≡ gate_line whole (slice_get (filter defines (statements_of ns ls)) s)
gate_is ns whole [] s are = refl
gate_is ns whole (line.Output t ∷ ls) s (e, are) = gate_is ns whole ls s are
gate_is ns whole (line.Gate t g ∷ ls) zero (e, are) = ap (λ xs. Some (g.kind, drop 1 xs)) e
gate_is ns whole (_ ∷ ls) zero (e, are) = refl
gate_is ns whole (_ ∷ ls) (suc s) (e, are) = gate_is ns whole ls s are

-- ---- sinks

sinks-append : (xs ys : List Reader) (s : ℕ)
    → sinks_at (xs ++ ys) s ≡ sinks_at xs s ++ sinks_at ys s
sinks-append xs ys s = rw (filter-append _ xs ys, map-append) refl

-- ---- the cells' names are defined once

position_after : (before after : List Name) (q : Name) → Distinct (before ++ q ∷ after)
    → position_or_len (bytes_eq q) (before ++ q ∷ after) ≡ length before
position_after [] after q once = rw (bytes_refl q) refl
position_after (x ∷ before) after q once =
    let differ : bytes_eq q x ≡ true → ⊥ = λ on.
    once.0 (among_right before (q ∷ after) x (inl (same_bytes q x on))) in
    grind (arith, common_steps, differ, position_after before after q once.1)

-- the names of the cells' outputs
abbrev pub qs : List Statement → List Name
qs c = map (λ cell. cell.0) (cells c)

pub cells_once : (c : List Statement) → Distinct (names c) → Distinct (qs c)
cells_once [] once = tt
cells_once (Output m ∷ c) once = cells_once c once
cells_once (Dff q d ∷ c) once = (
  (λ a. let at = of_cell c q a in
      once.0 (named c (Dff q at.0) q at.1 refl)),
  cells_once c once.1,
)
cells_once (_ ∷ c) once = cells_once c once.1

module _ (whole : List Statement) (n : Name) (named : Contains (names whole) n) where
  -- a name that has the number of this one is this one
  bytes_at : (d : Name) → bytes_eq n d ≡ (signal whole d == signal whole n)
  bytes_at d =
      let at = name_of-signal whole n named in
      let below = slice_get_within (names whole) (signal whole n) n at in
      let number = λ (e : signal whole d ≡ signal whole n).
      named_number whole d (signal whole n) e below in
      grind (arith, nat_tests, same_bytes n d, bytes_refl n, at, number)

  -- numbered readers of one kind
  numbered : (kind : ℕ → Sink) (k : ℕ) (xs : List Name)
      → sinks_at (map (λ at. record { signal = at.1; sink = kind at.0 })
      (enumerate_from k (map (signal whole) xs))) (signal whole n)
      ≡ map kind (map (λ at. at.0) (filter (λ at. bytes_eq n at.1) (enumerate_from k xs)))
  numbered kind k [] = refl
  numbered kind k (x ∷ xs) = grind (arith, bytes_at x, numbered kind (k + 1) xs)

  module _ (ns : List Name) where
    -- the sinks of the lines from one on, before which these cells stand
    line_sinks : (before : List Name) (ls : List NumberedLine) → AreRight ns (signal whole) ls
        → Distinct (before ++ qs (statements_of ns ls))
        → qs whole ≡ before ++ qs (statements_of ns ls)
        → sinks_at (line_readers (length before) ls) (signal whole n)
        ≡ flat_map (pins_of whole n) (statements_of ns ls)
    line_sinks before [] are once is = refl
    line_sinks before (line.Gate s g ∷ ls) (both, are) once is =
        let e : s ≡ signal whole (name_at ns s) = cc in
        let first = ap (λ xs. sinks_at (pin_readers s (drop 1 xs)) (signal whole n)) both
        ∙ numbered (Pin s) 0 (map (name_at ns) g.pins.items) in
        sinks-append (pin_readers s g.pins.items) (line_readers (length before) ls) (signal whole n)
        ∙ rw (first, line_sinks before ls are once is, ← e) refl
    line_sinks before (line.Dff q d ∷ ls) (both, are) once is =
        let p = name_at ns q in
        let h : d ≡ signal whole (name_at ns d) = cc in
        let same = bytes_at (name_at ns d) ∙ ap (λ x. x == signal whole n) (sym h) in
        let split = append_assoc before (p ∷ []) (qs (statements_of ns ls)) in
        let later = line_sinks (before ++ p ∷ []) ls are (rw split once) (is ∙ sym split) in
        let rest = ap (λ k. sinks_at (line_readers k ls) (signal whole n))
        (sym (length-append before (p ∷ []))) ∙ later in
        let own : cell whole p ≡ length before = ap (position_or_len (bytes_eq p)) is
        ∙ position_after before (qs (statements_of ns ls)) p once in
        grind (arith, same, rest, own)
    line_sinks before (_ ∷ ls) (e, are) once is = line_sinks before ls are once is

    pub sinks_are : (lines : List NumberedLine) → statements_of ns lines ≡ whole
        → AreRight ns (signal whole) lines → Distinct (qs whole)
        → sinks_at (all_readers lines (filter_map output_number lines)) (signal whole n)
        ≡ sinks whole n
    sinks_are lines is are once =
        sinks-append (line_readers 0 lines) (output_readers (filter_map output_number lines))
        (signal whole n) ∙ rw (
          line_sinks [] lines are (rw is once) (ap qs (sym is)),
          outputs_are ns (signal whole) lines are,
          is,
          numbered Out 0 (outputs whole),
        ) refl

-- ---- numbered lines are such lines

module _ (ns : List Name) (lines : List NumberedLine) (at : List ℕ)
    (are : AreStatements ns lines at) where
  abbrev c : List Statement
  c = statements_of ns lines

  once : AllPairs (λ m n. m ≢ n) (names c)
  once = subst (AllPairs (λ m n. m ≢ n)) (sym are.names_are) are.once

  number_of : (s : ℕ) (n : Name) → name_of c s ≡ Some n → signal c n ≡ s
  number_of s n e = signal-name_of c s n once e (contained (names c) n (at_place (names c) s n e))

  right_numbers : (xs : List ℕ) → ((s : ℕ) → Among s xs → s < length ns)
      → xs ≡ map (signal c) (map (name_at ns) xs)
  right_numbers [] below = refl
  right_numbers (x ∷ xs) below =
      let at = slice_get-get_or ns x [] (below x (inl refl)) in
      let first = number_of x (name_at ns x) (ap (λ ms. slice_get ms x) are.names_are ∙ at) in
      let rest = right_numbers xs (λ s a. below s (inr a)) in
      cc

  right : (ls : List NumberedLine) → ((s : ℕ) → Among s (flat_map numbers ls) → s < length ns)
      → AreRight ns (signal c) ls
  right [] below = tt
  right (l ∷ ls) below = (
    right_numbers (numbers l) (λ s a. below s (among_left (numbers l) _ s a)),
    right ls (λ s a. below s (among_right (numbers l) _ s a)),
  )

  in_range : (s : ℕ) → Among s (flat_map numbers lines) → s < length ns
  in_range s a = All-contains (λ x. x < length ns) _ s are.in_range (contained _ s a)

  all : AreRight ns (signal c) lines
  all = right lines in_range

  name_count : length (names c) ≡ length ns
  name_count = ap length are.names_are

  pub count : signals_in lines ≡ length ns
  count = definition_count lines ∙ (counts ns lines).1 ∙ name_count

  read_count : length (flat_map read_numbers lines) ≡ sink_count c
  read_count = sym (ap length (reads_numbers ns lines)
      ∙ length-map (flat_map read_numbers lines) (name_at ns))

  source_in : (s : ℕ) → Among s (source_signals lines) → s < signals_in lines
  source_in s a =
      let from = mapped_from (signal c) (sources c) s
      (rw (sources_are ns (signal c) lines all) at a) in
      let st = source_statement c from.0 from.1 in
      let below = signal_below c from.0 (named c st.0 from.0 st.1 st.2) in
      omega (arith, below, from.2, name_count, count)

  -- the pins of a signal are the names that a line reads
  reads : (s p : ℕ) → Among p (gate_pins lines s) → Among p (flat_map read_numbers lines)
  reads s = go (slice_get (filter defines_number lines) s) refl
    where
      go : (o : Option NumberedLine) → slice_get (filter defines_number lines) s ≡ o
          → (p : ℕ) → Among p (pins_in (line_gate o)) → Among p (flat_map read_numbers lines)
      go (Some (line.Gate t g)) e =
          let own = at_place (filter defines_number lines) s (line.Gate t g) e in
          let there = (filtered_from defines_number lines (line.Gate t g) own).0 in
          λ p a. among_joined read_numbers lines (line.Gate t g) p there a
      go _ e = λ p a. absurd a

  pub table_lines : AreTableLines lines
  table_lines = record {
    few_lines = few_lines;
    few_sources = rw (sources_are ns (signal c) lines all, length-map)
        (omega (arith, few_sources c, name_count, are.signals));
    sources_below =
        λ i d lt. source_in _ (among _ _ (Contains-get_or (source_signals lines) i d lt));
    few_outputs = omega (arith, few_outputs lines, read_count, are.sinks);
    few_readers = omega (arith, reader_count, read_count, are.sinks);
    readers_below = rw count (All-permutation (λ s. s < length ns) _ _
        (IsPermutation-sym _ _ (readers_read lines)) (λ i d lt. in_range _
        (reads_held lines _ (among _ _ (Contains-get_or (flat_map read_numbers lines) i d lt)))));
    pins_fit = λ l has. fits l (omega (arith, line_count lines l has, read_count, are.sinks));
    graph = record {
      few = omega (arith, count, are.signals);
      few_pins = omega (arith, pin_count lines, read_count, are.sinks);
      pins_below = λ s p a. omega (arith, count, in_range p (reads_held lines p (reads s p a)));
    };
  }
    where
      few_lines : length lines < 2147483648
      few_lines = let counts = counts ns lines in
          omega (arith, counts, definition_count lines, count, read_count, are.sinks, are.signals)

      reader_count : length (all_readers lines (filter_map output_number lines))
          ≡ length (flat_map read_numbers lines)
      reader_count = rw length-map at (sym (length_permutation _ _ (readers_read lines)))

  -- ---- the pins of signals are the pins of their statements

  same_pins : gate_pins lines ≡ pins c
  same_pins = fun_ext (λ s. ap pins_in (gate_is ns c lines s all))

  by_names : (levels : List ℕ) → AreLevelsOf (gate_pins lines) (signals_in lines) levels
      → AreLevelsOf (pins c) (length (names c)) levels
  by_names levels by_lines = rw (same_pins, count ∙ sym name_count) at by_lines

  pub circuit : (tables : Tables) → AreTables lines tables → lines ≢ [] → IsCircuit c
  circuit tables tabled some = record {
    well_formed = record {
      some = λ e. some (none lines e);
      once = once;
      all_defined = λ n has. subst (λ xs. Contains xs n) (sym are.names_are)
          (known ns lines are.in_range n (among _ n has));
      acyclic = (_, numbering c once are.arities _ (by_names _ tabled.levels_are));
    };
    arities = are.arities;
    signals = omega (arith, name_count, are.signals);
    sinks = are.sinks;
  }
    where
      none : (ls : List NumberedLine) → statements_of ns ls ≡ [] → ls ≡ []
      none [] e = refl
      none (l ∷ ls) e = let bad : statement_of ns l ∷ statements_of ns ls ≡ [] = e in cc

  pub inside : (tables : Tables) → AreTables lines tables → lines ≢ [] → IsInside c ns lines tables
  inside tables tabled some = record {
    circuit = circuit tables tabled some;
    names_are = are.names_are;
    inputs_are = tabled.of_signals_are.inputs_are ∙ inputs_are ns (signal c) lines all;
    cells_are = ap (map {B = ℕ × ℕ} (λ cell. (cell.q, cell.d))) tabled.of_signals_are.cells_are
        ∙ cells_are ns (signal c) lines all;
    outputs_are = tabled.of_sinks_are.outputs_are ∙ outputs_are ns (signal c) lines all;
    source_count = ap length tabled.of_signals_are.sources_are ∙ source_count;
    place_count = tabled.of_signals_are.places_are.count ∙ count ∙ sym name_count;
    places_are = λ s lt. place_at s lt _ refl;
    few_lines = omega (arith, table_lines.few_lines);
    definitions_are = tabled.of_signals_are.definitions_are;
    definition_count = ap length tabled.of_signals_are.definitions_are ∙ count ∙ sym name_count;
    gates_are = λ s. gate_is ns c lines s all;
    have_rows = λ s lt.
        (tabled.of_sinks_are.sinks_are.row s (omega (arith, lt, count, name_count))).0;
    sinks_are = λ s n e.
        let has = contained (names c) n (at_place (names c) s n e) in
        let lt = slice_get_within (names c) s n e in
        (tabled.of_sinks_are.sinks_are.row s (omega (arith, lt, count, name_count))).1
        ∙ rw (← number_of s n e) (sinks_are c n has ns lines refl all
        (cells_once c (distinct_from_pairs (names c) once)));
    level_count = levelled.count;
    levels_are = has_level c once are.arities levels levelled;
    order_is = level_order c once are.arities levels levelled tables.levels.order.items
        tabled.order_is.0 (tables.levels.depth + 1) tabled.order_is.1
        (λ i lt. omega (arith, greatest-at levels i lt, tabled.depth_is));
    depth_is = has_depth c once are.arities levels levelled tables.levels.depth tabled.depth_is;
  }
    where
      levels : List ℕ
      levels = tables.levels.levels.items

      source_count : length (source_signals lines) ≡ length (sources c)
      source_count =
          ap length (sources_are ns (signal c) lines all) ∙ length-map (sources c) (signal c)

      source_at : (i : ℕ) → i < length (sources c)
          → slice_index (source_signals lines) i ≡ signal c (slice_index_or (sources c) i [])
      source_at i lt = ap (λ xs. slice_index xs i) (sources_are ns (signal c) lines all)
          ∙ get_or-map (signal c) (sources c) i [] 0 lt

      levelled : AreLevelsOf (pins c) (length (names c)) levels
      levelled = by_names levels tabled.levels_are

      place_at : (s : ℕ) → s < length (names c) → (place : Option ℕ)
          → slice_index_or tables.of_signals.source_places.items s None ≡ place → IsPlace c s place
      place_at s lt (Some i) e =
          let at = tabled.of_signals_are.places_are.some s i
          (omega (arith, lt, count, name_count)) e in
          let within : i < length (sources c) = omega (arith, at.0, source_count) in
          let number = sym (source_at i within) ∙ at.1 in
          let named = named_number c _ s number lt in
          (slice_get-get_or (sources c) i [] within ∙ sym named, tt)
      place_at s lt None e = (
        tt,
        λ i same.
            let at = same ∙ slice_get-get_or (names c) s [] lt in
            let within = slice_get_within (sources c) i _ at in
            let name = get_or_from_slice_get (sources c) i _ [] at in
            grind (
              arith,
              lt,
              count,
              name_count,
              source_count,
              within,
              name,
              source_at i within,
              tabled.of_signals_are.places_are.none s i,
              number_of s _ (slice_get-get_or (names c) s [] lt),
            ),
      )

  -- the lowest stuck signal is the first, and without levels the file has an error
  first_stuck : (s : ℕ) → IsLowestStuck (gate_pins lines) (signals_in lines) s → IsFirstStuck c s
  first_stuck s by_lines = go (definition c s) refl read_by.1
    where
      fault : IsLowestStuck (pins c) (signals_in lines) s
      fault = subst (λ f. IsLowestStuck f (signals_in lines) s) same_pins by_lines

      read_by : (p : ℕ) × Among p (pins c s) × Among p fault.1.0
      read_by = fault.1.1 s fault.1.2

      go : (o : Option Statement) → definition c s ≡ o → Among read_by.0 (pins_in (gate_line c o))
          → IsFirstStuck c s
      go None e a = absurd a
      go (Some (Gate n kind args)) e a =
          let own = definition_defines c s (Gate n kind args) e in
          let named : name_of c s ≡ Some n = grind (arith, own.1, own.2) in (
            n,
            kind,
            args,
            e,
            stuck_name c once s n (number_of s n named) fault.1,
            λ t m lt named. let level = fault.2 t lt in
                not_stuck c once t level.0 m (number_of t m named) level.1,
          )
      go (Some _) e a = absurd a

  pub refused : (fault : BenchFault) → IsLevelFault (gate_pins lines) (signals_in lines) at fault
      → (fault ≡ Memory) ⊎ AreRefused ns lines at fault
  refused Memory f = inl refl
  refused (Cycle number) (s, here, by_lines) = inr (s, here, first_stuck s by_lines)
  refused _ f = absurd f
