-- The signals that cells' data pins read, from the signals of q and d.
use Rattle.std.proofs.Common.{◌≡◌, ℕ, refl, ap, List, [], ◌∷◌, drop}
use Rattle.std.specs.Prelude.{map, slice_index_or}
use Rattle.bench_net.specs.{declared.ScanCell.ScanCell, Statement.{Name, Statement}}
use Rattle.bench_net.specs.Scan.{signal, cells}

second_of : (c : List Statement) (stored : List ScanCell) (named : List (Name × Name))
    → map {B = ℕ × ℕ} (λ cell. (cell.q, cell.d)) stored ≡ map (λ cell. (
      signal c cell.0,
      signal c cell.1,
    )) named → map (λ (cell : ScanCell). cell.d) stored ≡ map (λ cell. signal c cell.1) named
second_of c [] [] e = refl
second_of c [] (n ∷ named) e = cc
second_of c (s ∷ stored) [] e = cc
second_of c (s ∷ stored) (n ∷ named) e =
    let first : s.d ≡ signal c n.1 = ap (λ (l : List (ℕ × ℕ)). (slice_index_or l 0 (0, 0)).1) e in
    let rest : map {B = ℕ × ℕ} (λ cell. (cell.q, cell.d)) stored ≡ map (λ cell. (
      signal c cell.0,
      signal c cell.1,
    )) named = ap (λ (l : List (ℕ × ℕ)). drop 1 l) e in
    rw (first, second_of c stored named rest) refl

pub data_signals : (c : List Statement) (stored : List ScanCell)
    → map {B = ℕ × ℕ} (λ cell. (cell.q, cell.d)) stored ≡ map (λ cell. (
      signal c cell.0,
      signal c cell.1,
    )) (cells c)
    → map (λ (cell : ScanCell). cell.d) stored ≡ map (λ cell. signal c cell.1) (cells c)
data_signals c stored e = second_of c stored (cells c) e
