-- Tables from their heads and their rows.
use Rattle.std.proofs.Common.{◌≡◌, ◌∙◌, List, ap}
use Rattle.table_rows.specs.{Cells.Cell, Table.{Head, Table}}

abbrev pub table_of : Head → List (List Cell) → Table
table_of head rows = record { head = head; rows = rows }

-- equal heads and rows make equal tables
pub tables_same : (h k : Head) (r s : List (List Cell)) → h ≡ k → r ≡ s
    → table_of h r ≡ table_of k s
tables_same h k r s e f = ap (λ x. table_of x r) e ∙ ap (λ y. table_of k y) f

-- a head with other sums
pub sums_same : (h : Head) (s t : List Cell) → s ≡ t → record h { sums = s } ≡ record h { sums = t }
sums_same h s t e = ap (λ x. record h { sums = x }) e
