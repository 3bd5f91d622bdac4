-- The pins of all gates in rows: of each signal the pins of the line that defines it.
use Rattle.std.proofs.Common.{◌≡◌, ◌<◌, ◌≤◌, ◌+◌, ◌∙◌, ℕ, zero, suc, sym, ap, refl, cond, arith}
use Rattle.std.proofs.Common.{List, [], ◌∷◌, ◌++◌, filter, length, get_or, append_assoc}
use Rattle.std.proofs.Common.{length-append, subst, add-one, take, drop, ◌-◌}
use Rattle.std.{specs.Prelude.{true, false, Some, slice_range}, proofs.lemmas.Grind.common_steps}
use Rattle.bench_net.specs.{declared.line.NumberedLine.NumberedLine, Tables.line_gate}
use Rattle.bench_net.specs.Tables.{defines_number, gate_pins, all_pins, HasRow, row_of, signals_in}
use Rattle.bench_net.specs.Marks.{pins_in, ArePinRows, IsGraph, IsPinGraph, AreLevelsOf}
use Rattle.bench_net.specs.{Marks.{IsLevelFault, pins_by}, declared.levels.PinRows.PinRows}
use Rattle.bench_net.{specs.declared.BenchFault.BenchFault, proofs.LineTables.definition_count}
use Rattle.bench_net.specs.declared.line.NumberedLine.TheVariants as line
use Rattle.list_lemmas.proofs.Members.{Among}
use mathlib.Core.Path.{fun_ext}

-- the signals that a line's pins read
abbrev pub line_pins : NumberedLine → List ℕ
line_pins l = pins_in (line_gate (Some l))

-- the starts of the rows of lines, after this number of pins
abbrev pub pin_starts : ℕ → List NumberedLine → List ℕ
pin_starts n [] = n ∷ []
pin_starts n (l ∷ lines) = cond (defines_number l)
    (n ∷ pin_starts (n + length (line_pins l)) lines) (pin_starts n lines)

-- a line that defines no signal has no pins
pub no_pins : (l : NumberedLine) → defines_number l ≡ false → line_pins l ≡ []
no_pins (line.Output s) e = refl
no_pins (line.Input s) e = refl
no_pins (line.Dff q d) e = refl
no_pins (line.Gate s g) e = let bad : true ≡ false = e in cc

-- the first row starts after the pins before it
first_start : (n : ℕ) (lines : List NumberedLine) → get_or (pin_starts n lines) 0 0 ≡ n
first_start n [] = refl
first_start n (line.Output s ∷ lines) = first_start n lines
first_start n (line.Input s ∷ lines) = refl
first_start n (line.Gate s g ∷ lines) = refl
first_start n (line.Dff q d ∷ lines) = refl

some_start : (n : ℕ) (lines : List NumberedLine) → 0 < length (pin_starts n lines)
some_start n [] = omega arith
some_start n (line.Output s ∷ lines) = some_start n lines
some_start n (line.Input s ∷ lines) = omega arith
some_start n (line.Gate s g ∷ lines) = omega arith
some_start n (line.Dff q d ∷ lines) = omega arith

next : (n s : ℕ) (starts : List ℕ) → get_or (n ∷ starts) (suc s + 1) 0 ≡ get_or starts (s + 1) 0
next n s starts = rw (add-one (suc s), add-one s) refl

-- the pins before a row, the pins of a gate, and the pins after it
cut : (xs ps ys all : List ℕ) → all ≡ xs ++ (ps ++ ys) → (start end : ℕ) → start ≡ length xs
    → end ≡ length xs + length ps → (slice_range all start end ≡ ps) × (start ≤ end)
    × (end ≤ length all)
cut xs ps ys all is start end from to = grind (arith, common_steps)

-- each signal's row has the pins of its line
row_at : (lines : List NumberedLine) (xs all : List ℕ) (n : ℕ) → n ≡ length xs
    → all ≡ xs ++ all_pins lines → (s : ℕ) → row_of (pin_starts n lines) all s ≡ gate_pins lines s
row_at [] xs all n count is zero =
    let none : 0 - n ≡ 0 = omega arith in ap (λ k. take k (drop n all)) none
row_at [] xs all n count is (suc s) = ap (λ e. take (e - 0) all) (next n s [])
row_at (line.Output t ∷ lines) xs all n count is s = row_at lines xs all n count is s
row_at (l ∷ lines) xs all n count is zero =
    let ps = line_pins l in
    let end = first_start (n + length ps) lines in
    (cut xs ps (all_pins lines) all is n _ count (end ∙ ap (λ k. k + length ps) count)).0
row_at (l ∷ lines) xs all n count is (suc s) =
    let ps = line_pins l in
    let starts = pin_starts (n + length ps) lines in
    let more = row_at lines (xs ++ ps) all (n + length ps)
    (omega (arith, count, length-append xs ps)) (is ∙ sym (append_assoc xs ps (all_pins lines))) s
    in ap (λ e. slice_range all (get_or starts s 0) e) (next n s starts) ∙ more

-- each signal has a row
has_row : (lines : List NumberedLine) (xs all : List ℕ) (n : ℕ) → n ≡ length xs
    → all ≡ xs ++ all_pins lines → (s : ℕ) → s < length (filter defines_number lines)
    → HasRow (pin_starts n lines) all s
has_row [] xs all n count is s lt = absurd (omega (arith, lt))
has_row (line.Output t ∷ lines) xs all n count is s lt = has_row lines xs all n count is s lt
has_row (l ∷ lines) xs all n count is zero lt =
    let ps = line_pins l in
    let end = first_start (n + length ps) lines in
    let own = cut xs ps (all_pins lines) all is n _ count (end ∙ ap (λ k. k + length ps) count) in
    record {
      known = omega (arith, some_start (n + length ps) lines);
      in_order = own.1;
      within = own.2;
    }
has_row (l ∷ lines) xs all n count is (suc s) lt =
    let ps = line_pins l in
    let more = has_row lines (xs ++ ps) all (n + length ps)
    (omega (arith, count, length-append xs ps)) (is ∙ sym (append_assoc xs ps (all_pins lines))) s
    (omega (arith, lt)) in
    record {
      known = omega (arith, more.known);
      in_order = omega (arith, next n s (pin_starts (n + length ps) lines), more.in_order);
      within = omega (arith, next n s (pin_starts (n + length ps) lines), more.within);
    }

pub pin_rows_are : (lines : List NumberedLine) (rows : PinRows)
    → rows.starts.items ≡ pin_starts 0 lines → rows.pins.items ≡ all_pins lines
    → ArePinRows (gate_pins lines) (signals_in lines) rows
pin_rows_are lines rows starts_are is = record {
  have_rows = λ s lt. rw starts_are
      (has_row lines [] rows.pins.items 0 refl is s (omega (arith, lt, definition_count lines)));
  rows_are = λ s. rw starts_are (row_at lines [] rows.pins.items 0 refl is s);
}

-- a gate has no more pins than all gates
few : (lines : List NumberedLine) (s : ℕ) → length (gate_pins lines s) ≤ length (all_pins lines)
few [] zero = omega arith
few [] (suc s) = omega arith
few (line.Output t ∷ lines) s = few lines s
few (l ∷ lines) zero = grind (arith, common_steps)
few (l ∷ lines) (suc s) = grind (arith, common_steps, few lines s)

-- the rows are the pins of the lines' gates
module _ (lines : List NumberedLine) (rows : PinRows) (n : ℕ)
    (are : ArePinRows (gate_pins lines) (signals_in lines) rows)
    (count : n ≡ signals_in lines) where
  pub pin_graph : IsGraph lines → IsPinGraph rows n
  pin_graph graph = record {
    few = omega (arith, count, graph.few);
    have_rows = λ s lt. are.have_rows s (omega (arith, lt, count));
    few_pins = λ s. rw (are.rows_are s) (omega (arith, few lines s, graph.few_pins));
    pins_below = λ s p a.
        omega (arith, count, graph.pins_below s p (subst (λ ps. Among p ps) (are.rows_are s) a));
  }

  pub levels_by_rows : (levels : List ℕ) → AreLevelsOf (pins_by rows) n levels
      → AreLevelsOf (gate_pins lines) (signals_in lines) levels
  levels_by_rows levels by = subst (λ k. AreLevelsOf (gate_pins lines) k levels) count
      (subst (λ f. AreLevelsOf f n levels) (fun_ext are.rows_are) by)

  pub fault_by_rows : (at : List ℕ) (fault : BenchFault) → IsLevelFault (pins_by rows) n at fault
      → IsLevelFault (gate_pins lines) (signals_in lines) at fault
  fault_by_rows at fault by = subst (λ k. IsLevelFault (gate_pins lines) k at fault) count
      (subst (λ f. IsLevelFault f n at fault) (fun_ext are.rows_are) by)
