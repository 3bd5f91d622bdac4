-- The names of signals and flip-flop cells, from the results of the calls of a circuit.
use Rattle.std.proofs.Common.{◌≡◌, ◌<◌, ℕ, zero, suc, refl, ◌∙◌, ap, List, [], ◌∷◌, length, arith}
use Rattle.std.proofs.Common.{drop}
use Rattle.std.proofs.lemmas.Option.{get_or_from_slice_get, slice_get-map, slice_get_within}
use Rattle.std.specs.Prelude.{Contains, Some, map, option_map, slice_get, slice_index_or}
use Rattle.bench_net.specs.{declared.ScanCell.ScanCell, Statement.{Name, Statement, Dff}}
use Rattle.bench_net.specs.Scan.{names, signal, cells, name_of}
use Rattle.bench_net.proofs.Public.{defined_among, name_of-signal, of_cell}
use Rattle.list_lemmas.proofs.{Members.contained, Places.at_place}

-- the element at a place of a list of numbers that is made of another list
pub mapped_at : {X : Type 0} (f : X → ℕ) (xs : List X) (ys : List ℕ) (i : ℕ) (x : X)
    → ys ≡ map f xs → slice_get xs i ≡ Some x → (i < length ys) × (slice_index_or ys i 0 ≡ f x)
mapped_at f xs ys i x e at =
    let there : slice_get ys i ≡ Some (f x) = ap (λ l. slice_get l i) e
    ∙ (slice_get-map f xs i ∙ ap (option_map f) at) in (
      slice_get_within ys i (f x) there,
      get_or_from_slice_get ys i (f x) 0 there,
    )

-- the number of a defined name is the number of a signal, which has this name
pub signal_named : (c : List Statement) (n : Name) → Contains (names c) n
    → (signal c n < length (names c)) × (name_of c (signal c n) ≡ Some n)
signal_named c n at = let e = name_of-signal c n at in
    (slice_get_within (names c) (signal c n) n e, e)

-- the element of a list of stored cells at the place of a cell of the circuit
pub record StoredAt (cs : List (Name × Name)) (rs : List ScanCell) (f : Name → ℕ) (i : ℕ)
    (other : ScanCell) : Type 0 where
  pub cell : Name × Name
  pub is : slice_get cs i ≡ Some cell
  pub within : i < length rs
  pub q : (slice_index_or rs i other).q ≡ f cell.0
  pub d : (slice_index_or rs i other).d ≡ f cell.1

pub stored_at : (cs : List (Name × Name)) (rs : List ScanCell) (f : Name → ℕ) (i : ℕ)
    (other : ScanCell)
    → map {B = ℕ × ℕ} (λ cell. (cell.q, cell.d)) rs ≡ map (λ cell. (f cell.0, f cell.1)) cs
    → i < length cs → StoredAt cs rs f i other
stored_at [] rs f i other e h = absurd (omega (arith, h))
stored_at (c ∷ cs) [] f i other e h = cc
stored_at (c ∷ cs) (r ∷ rs) f zero other e h = record {
  cell = c;
  is = refl;
  within = omega arith;
  q = ap (λ (l : List (ℕ × ℕ)). (slice_index_or l 0 (0, 0)).0) e;
  d = ap (λ (l : List (ℕ × ℕ)). (slice_index_or l 0 (0, 0)).1) e;
}
stored_at (c ∷ cs) (r ∷ rs) f (suc i) other e h =
    let rest : map {B = ℕ × ℕ} (λ cell. (cell.q, cell.d)) rs ≡ map (λ cell. (
      f cell.0,
      f cell.1,
    )) cs = ap (λ (l : List (ℕ × ℕ)). drop 1 l) e in
    let p = stored_at cs rs f i other rest (omega (arith, h)) in
    let near = p.within in record {
      cell = p.cell;
      is = p.is;
      within = omega (arith, near);
      q = p.q;
      d = p.d;
    }

-- a cell's q is a name of the circuit
pub q_named : (c : List Statement) (i : ℕ) (cell : Name × Name) → slice_get (cells c) i ≡ Some cell
    → Contains (names c) cell.0
q_named c i cell e =
    let there : slice_get (map (λ qd. qd.0) (cells c)) i ≡ Some cell.0 =
    slice_get-map (λ qd. qd.0) (cells c) i ∙ ap (option_map (λ qd. qd.0)) e in
    let p = of_cell c cell.0 (at_place (map (λ qd. qd.0) (cells c)) i cell.0 there) in
    contained (names c) cell.0 (defined_among c (Dff cell.0 p.0) cell.0 p.1 refl)
