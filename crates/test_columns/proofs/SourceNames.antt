-- The names of a circuit's sources, from the results of the calls of a circuit.
use Rattle.std.proofs.Common.{◌≡◌, ◌<◌, ◌≤◌, ◌-◌, ◌∙◌, ◌++◌, ℕ, zero, suc, List, [], ◌∷◌, ap, arith}
use Rattle.std.proofs.{Common.{length, map, refl, sym}, lemmas.Option.slice_get_within}
use Rattle.std.proofs.lemmas.Option.{get_or_from_slice_get, slice_get-map, slice_get_past}
use Rattle.std.proofs.lemmas.List.{length-map}
use Rattle.std.specs.Prelude.{Some, None, option_map, slice_get, slice_index_or}
use Rattle.bench_net.specs.{declared.ScanCell.ScanCell, Statement.{Name, Statement, Input, Dff}}
use Rattle.bench_net.specs.Scan.{cells, inputs, names, name_of, signal, sources}
use Rattle.bench_net.proofs.Public.{defined_among, name_of-signal, of_cell, of_input}
use Rattle.list_lemmas.proofs.{Members.{Among, contained}, Places.{at_place, within_place}}

-- the number of a signal, the source at a place
pub record IsSourceAt (c : List Statement) (place number : ℕ) : Type 0 where
  pub name : Name
  pub is : slice_get (sources c) place ≡ Some name
  pub within : number < length (names c)
  pub named : name_of c number ≡ Some name

append_left : (xs ys : List Name) (i : ℕ) (x : Name) → slice_get xs i ≡ Some x
    → slice_get (xs ++ ys) i ≡ Some x
append_left [] ys i x e = let bad : None ≡ Some x = e in cc
append_left (z ∷ xs) ys zero x e = e
append_left (z ∷ xs) ys (suc i) x e = append_left xs ys i x e

append_right : (xs ys : List Name) (i : ℕ) → length xs ≤ i
    → slice_get (xs ++ ys) i ≡ slice_get ys (i - length xs)
append_right [] ys i le = ap (slice_get ys) (omega arith)
append_right (z ∷ xs) ys zero le = absurd (omega (arith, le))
append_right (z ∷ xs) ys (suc i) le =
    append_right xs ys i (omega (arith, le)) ∙ ap (slice_get ys) (omega arith)

at_source : (c : List Statement) (place number : ℕ) (n : Name)
    → slice_get (sources c) place ≡ Some n
    → Among n (names c) → number ≡ signal c n → IsSourceAt c place number
at_source c place number n is a e =
    let named = name_of-signal c n (contained (names c) n a) in record {
      name = n;
      is = is;
      within = rw e (slice_get_within (names c) (signal c n) n named);
      named = rw e named;
    }

pub input_at : (c : List Statement) (ids : List ℕ) (place : ℕ) → ids ≡ map (signal c) (inputs c)
    → place < length ids → IsSourceAt c place (slice_index_or ids place 0)
input_at c ids place e lt =
    let long : place < length (inputs c) =
    omega (arith, lt, ap length e, length-map (inputs c) (signal c)) in
    let at = within_place (inputs c) place long in
    let there : slice_get ids place ≡ Some (signal c at.0) = ap (λ l. slice_get l place) e
    ∙ (slice_get-map (signal c) (inputs c) place ∙ ap (option_map (signal c)) at.1) in
    at_source c place (slice_index_or ids place 0) at.0
    (append_left (inputs c) (map (λ cell. cell.0) (cells c)) place at.0 at.1)
    (defined_among c (Input at.0) at.0 (of_input c at.0 (at_place (inputs c) place at.0 at.1)) refl)
    (get_or_from_slice_get ids place (signal c at.0) 0 there)

-- the element of a list of stored cells at the place of a cell of the circuit
stored_at : (cs : List (Name × Name)) (rs : List ScanCell) (f : Name → ℕ) (i : ℕ) (d : ScanCell)
    → map {B = ℕ × ℕ} (λ cell. (cell.q, cell.d)) rs ≡ map (λ cell. (f cell.0, f cell.1)) cs
    → i < length rs
    → (q : Name) × (slice_get (map (λ qd. qd.0) cs) i ≡ Some q) × ((slice_index_or rs i d).q ≡ f q)
stored_at cs [] f i d e h = absurd (omega (arith, h))
stored_at [] (r ∷ rs) f i d e h = cc
stored_at (c ∷ cs) (r ∷ rs) f zero d e h = (c.0, refl, ap (λ p. p.0) (first e))
  where
    first : (r.q, r.d) ∷ map {B = ℕ × ℕ} (λ cell. (cell.q, cell.d)) rs ≡ (
      f c.0,
      f c.1,
    ) ∷ map (λ cell. (f cell.0, f cell.1)) cs → ◌≡◌ {A = ℕ × ℕ} (r.q, r.d) (f c.0, f c.1)
    first e = cc
stored_at (c ∷ cs) (r ∷ rs) f (suc i) d e h = stored_at cs rs f i d (rest e) (omega (arith, h))
  where
    rest : (r.q, r.d) ∷ map {B = ℕ × ℕ} (λ cell. (cell.q, cell.d)) rs ≡ (
      f c.0,
      f c.1,
    ) ∷ map (λ cell. (f cell.0, f cell.1)) cs
        → map {B = ℕ × ℕ} (λ cell. (cell.q, cell.d)) rs ≡ map (λ cell. (f cell.0, f cell.1)) cs
    rest e = cc

input_count : (c : List Statement) (ids : List ℕ) → ids ≡ map (signal c) (inputs c)
    → length ids ≡ length (inputs c)
input_count c ids e = ap length e ∙ length-map (inputs c) (signal c)

after_inputs : (c : List Statement) (ids : List ℕ) (place : ℕ) → ids ≡ map (signal c) (inputs c)
    → length ids ≤ place
    → slice_get (sources c) place ≡ slice_get (map (λ cell. cell.0) (cells c)) (place - length ids)
after_inputs c ids place e le =
    let count = input_count c ids e in
    append_right (inputs c) (map (λ cell. cell.0) (cells c)) place (omega (arith, le, count))
    ∙ ap (λ n. slice_get (map (λ cell. cell.0) (cells c)) (place - n)) (sym count)

pub cell_at : (c : List Statement) (ids : List ℕ) (rs : List ScanCell) (place : ℕ) (d : ScanCell)
    → ids ≡ map (signal c) (inputs c) → map {B = ℕ × ℕ} (λ cell. (cell.q, cell.d)) rs
    ≡ map (λ cell. (signal c cell.0, signal c cell.1)) (cells c)
    → length ids ≤ place → place - length ids < length rs
    → IsSourceAt c place (slice_index_or rs (place - length ids) d).q
cell_at c ids rs place d e f le lt =
    let at = stored_at (cells c) rs (signal c) (place - length ids) d f lt in
    let cell = of_cell c at.0
    (at_place (map (λ cell. cell.0) (cells c)) (place - length ids) at.0 at.1) in
    at_source c place (slice_index_or rs (place - length ids) d).q at.0
    (after_inputs c ids place e le ∙ at.1) (defined_among c (Dff at.0 cell.0) at.0 cell.1 refl) at.2

pub none_at : (c : List Statement) (ids : List ℕ) (rs : List ScanCell) (place : ℕ)
    → ids ≡ map (signal c) (inputs c) → map {B = ℕ × ℕ} (λ cell. (cell.q, cell.d)) rs
    ≡ map (λ cell. (signal c cell.0, signal c cell.1)) (cells c)
    → length ids ≤ place → length rs ≤ place - length ids → None ≡ slice_get (sources c) place
none_at c ids rs place e f le past =
    let stored : ScanCell → ℕ × ℕ = λ cell. (cell.q, cell.d) in
    let own : Name × Name → ℕ × ℕ = λ cell. (signal c cell.0, signal c cell.1) in
    let count : length rs ≡ length (cells c) =
    sym (length-map rs stored) ∙ (ap length f ∙ length-map (cells c) own) in
    let named = length-map (cells c) (λ cell. cell.0) in
    sym (after_inputs c ids place e le ∙ slice_get_past (map (λ cell. cell.0) (cells c))
    (place - length ids) (omega (arith, past, count, named)))
