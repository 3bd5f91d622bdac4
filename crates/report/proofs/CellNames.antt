-- The names of flip-flop cells.
use Rattle.std.proofs.Common.{◌≡◌, ◌<◌, ℕ, zero, suc, refl, ap, List, [], ◌∷◌, length, arith, inl}
use Rattle.std.{proofs.Common.{inr, map}, specs.Prelude.{Some, None, slice_get, slice_index_or}}
use Rattle.bench_net.specs.{declared.ScanCell.ScanCell, Scan.{names, cells, signal, name_of}}
use Rattle.bench_net.specs.Statement.{Name, Statement, Input, Output, Gate, Dff}
use Rattle.bench_net.proofs.Public.{name_of-signal}
use Rattle.list_lemmas.proofs.Members.{Among, contained}

-- the element of a list of stored cells at the place at which the cells of the circuit have q
pub cell_at : (cs : List (Name × Name)) (rs : List ScanCell) (f : Name → ℕ) (i : ℕ) (d : ScanCell)
    → map {B = ℕ × ℕ} (λ cell. (cell.q, cell.d)) rs ≡ map (λ cell. (f cell.0, f cell.1)) cs
    → i < length cs
    → (q : Name) × (slice_get (map (λ qd. qd.0) cs) i ≡ Some q) × ((slice_index_or rs i d).q ≡ f q)
    × Among q (map (λ qd. qd.0) cs)
cell_at [] rs f i d e h = absurd (omega (arith, h))
cell_at (c ∷ cs) [] f i d e h = cc
cell_at (c ∷ cs) (r ∷ rs) f zero d e h = (c.0, refl, ap (λ p. p.0) (first e), inl refl)
  where
    first : (r.q, r.d) ∷ map {B = ℕ × ℕ} (λ cell. (cell.q, cell.d)) rs ≡ (
      f c.0,
      f c.1,
    ) ∷ map (λ cell. (f cell.0, f cell.1)) cs → ◌≡◌ {A = ℕ × ℕ} (r.q, r.d) (f c.0, f c.1)
    first e = cc
cell_at (c ∷ cs) (r ∷ rs) f (suc i) d e h =
    let p = cell_at cs rs f i d (rest e) (omega (arith, h)) in (p.0, p.1, p.2, inr p.3)
  where
    rest : (r.q, r.d) ∷ map {B = ℕ × ℕ} (λ cell. (cell.q, cell.d)) rs ≡ (
      f c.0,
      f c.1,
    ) ∷ map (λ cell. (f cell.0, f cell.1)) cs
        → map {B = ℕ × ℕ} (λ cell. (cell.q, cell.d)) rs ≡ map (λ cell. (f cell.0, f cell.1)) cs
    rest e = cc

-- a cell's q is a name of the circuit
pub cell_is_named : (c : List Statement) (q : Name) → Among q (map (λ qd. qd.0) (cells c))
    → Among q (names c)
cell_is_named [] q a = absurd a
cell_is_named (Input m ∷ c) q a = inr (cell_is_named c q a)
cell_is_named (Output m ∷ c) q a = cell_is_named c q a
cell_is_named (Gate m kind args ∷ c) q a = inr (cell_is_named c q a)
cell_is_named (Dff p d ∷ c) q (inl e) = inl e
cell_is_named (Dff p d ∷ c) q (inr a) = inr (cell_is_named c q a)

-- a place with an element is within the list
within : (ns : List Name) (i : ℕ) (n : Name) → slice_get ns i ≡ Some n → i < length ns
within [] i n e = let bad : None ≡ Some n = e in cc
within (m ∷ ns) zero n e = omega arith
within (m ∷ ns) (suc i) n e = omega (arith, within ns i n e)

-- the number of a cell's q is the number of a signal, whose name is q
pub cell_signal : (c : List Statement) (q : Name) → Among q (map (λ qd. qd.0) (cells c))
    → (signal c q < length (names c)) × (name_of c (signal c q) ≡ Some q)
cell_signal c q a =
    let e : name_of c (signal c q) ≡ Some q =
    name_of-signal c q (contained (names c) q (cell_is_named c q a)) in
    (within (names c) (signal c q) q e, e)
