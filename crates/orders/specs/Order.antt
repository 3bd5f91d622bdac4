-- Order files: the worker numbers of a file, or the error of its first row with an error.
use Rattle.std.specs.Prelude.{◌≡◌, ℕ, ◌+◌, ◌*◌, ◌-◌, Bool, not, ◌&&◌, nat_lt, nat_le, List, [], ◌∷◌}
use Rattle.std.specs.Prelude.{map, fold, filter_map, length, Option, Some, None, if◌then◌else◌}
use Rattle.std.specs.List.{list_all, enumerate_from}
use Rattle.std.specs.Char.{is_ascii_digit}
use Rattle.text_lines.specs.Rows.{Row, rows}
use Rattle.orders.specs.declared.OrderFault.{OrderFault}
use Rattle.orders.specs.declared.OrderFault.TheVariants.{BadNumber, NoSuchWorker, TooMany, Memory}

-- at most 1000000 moves
abbrev pub max_moves : ℕ
max_moves = 1000000

-- a number is 1 to 9 decimal digits, leading zeros allowed
abbrev pub is_number : List ℕ → Bool
is_number bytes = nat_le (length bytes) 9 && list_all is_ascii_digit bytes

-- the number that decimal digits stand for
abbrev pub number : List ℕ → ℕ
number digits = fold (λ n digit. 10 * n + (digit - 48)) 0 digits

-- the error of a row, given with its place among the rows: a row past the limit; a row that is no
-- number; a worker out of range
abbrev pub order_fault : ℕ → ℕ × Row → Option OrderFault
order_fault workers at =
    if not (nat_lt at.0 max_moves) then Some TooMany
    else if not (is_number at.1.bytes) then Some (BadNumber at.1.line)
    else if not (nat_lt (number at.1.bytes) workers) then Some (NoSuchWorker at.1.line)
    else None

-- the errors of the rows, from the top
abbrev pub order_faults : List ℕ → ℕ → List OrderFault
order_faults text workers = filter_map (order_fault workers) (enumerate_from 0 (rows text))

-- the file spells these worker numbers: no row has an error, and each row is one
abbrev pub HasMoves : List ℕ → ℕ → List ℕ → Type 0
HasMoves text workers moves = (order_faults text workers ≡ [])
    × (moves ≡ map (λ row. number row.bytes) (rows text))

-- the file has the error of its first row with an error
abbrev pub IsOrderRefusal : List ℕ → ℕ → OrderFault → Type 0
IsOrderRefusal text workers Memory = ⊥
IsOrderRefusal text workers fault = (more : List OrderFault)
    × (order_faults text workers ≡ fault ∷ more)
