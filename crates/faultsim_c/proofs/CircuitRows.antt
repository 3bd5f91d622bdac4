-- Rows of numbers one after another, and how many pins the gates of a circuit have.
use Rattle.std.proofs.Common.{◌≡◌, ◌≤◌, ◌+◌, ◌-◌, ℕ, zero, suc, List, [], ◌∷◌, ◌++◌, length, ◌∙◌}
use Rattle.std.proofs.{Common.{ap, arith, filter, length-append, map, refl}, lemmas.List.length-map}
use Rattle.std.specs.Prelude.{Some, flat_map, slice_get}
use Rattle.bench_net.specs.{Circuit.{IsCircuit, max_sinks}, Scan.{gate_line, signal}}
use Rattle.bench_net.specs.Statement.{Statement, Input, Output, Gate, Dff, defines, read}
use Rattle.faultsim_c.specs.Circuits.{fan_in, pins_read, rows_before}

rows_more : {X : Type 0} (row : ℕ → List X) (j d k : ℕ) → j + d ≡ k
    → length (rows_before row j) ≤ length (rows_before row k)
rows_more row j zero k e =
    let equal : k ≡ j = omega arith in
    let same : length (rows_before row k) ≡ length (rows_before row j) =
    ap (λ (n : ℕ). length (rows_before row n)) equal in
    omega (arith, same)
rows_more row j (suc d) k e =
    let before : length (rows_before row j) ≤ length (rows_before row (j + d)) =
    rows_more row j d (j + d) refl in
    let equal : k ≡ suc (j + d) = omega arith in
    let long : length (rows_before row k)
    ≡ length (rows_before row (j + d)) + length (row (j + d)) =
    ap (λ (n : ℕ). length (rows_before row n)) equal
    ∙ length-append (rows_before row (j + d)) (row (j + d)) in
    omega (arith, before, long)

-- the first rows have no more items than more rows
pub rows_within : {X : Type 0} (row : ℕ → List X) (j k : ℕ) → j ≤ k
    → length (rows_before row j) ≤ length (rows_before row k)
rows_within row j k le = rows_more row j (k - j) k (omega (arith, le))

-- one row more
pub row_long : {X : Type 0} (row : ℕ → List X) (k : ℕ) → length (rows_before row (k + 1))
    ≡ length (rows_before row k) + length (row k)
row_long row k =
    let equal : k + 1 ≡ suc k = omega arith in
    ap (λ (n : ℕ). length (rows_before row n)) equal ∙ length-append (rows_before row k) (row k)

-- the first row before the others
rows_shifted : (row : ℕ → List ℕ) (k : ℕ) → length (rows_before row (suc k))
    ≡ length (row 0) + length (rows_before (λ s. row (suc s)) k)
rows_shifted row zero = omega arith
rows_shifted row (suc k) =
    let before : length (rows_before row (suc k))
    ≡ length (row 0) + length (rows_before (λ s. row (suc s)) k) = rows_shifted row k in
    let long : length (rows_before row (suc (suc k)))
    ≡ length (rows_before row (suc k)) + length (row (suc k)) =
    length-append (rows_before row (suc k)) (row (suc k)) in
    let later : length (rows_before (λ s. row (suc s)) (suc k))
    ≡ length (rows_before (λ s. row (suc s)) k) + length (row (suc k)) =
    length-append (rows_before (λ s. row (suc s)) k) (row (suc k)) in
    omega (arith, before, long, later)

-- a gate has no more pins than names that it reads
pins_few : (c : List Statement) (st : Statement)
    → length (pins_read (gate_line c (Some st))) ≤ length (read st)
pins_few c (Input n) = omega arith
pins_few c (Output n) = omega arith
pins_few c (Dff q d) = omega arith
pins_few c (Gate n kind args) =
    let same : length (map (signal c) args) ≡ length args = length-map args (signal c) in
    omega (arith, same)

-- the pins of the first of some statements
front_few : (c xs : List Statement) (k : ℕ)
    → length (rows_before (λ s. pins_read (gate_line c (slice_get xs s))) k)
    ≤ length (flat_map read xs)
front_few c xs zero = omega arith
front_few c [] (suc k) =
    let before : length (rows_before (λ s. pins_read (gate_line c (slice_get [] s))) k) ≤ 0 =
    front_few c [] k in
    let long = length-append (rows_before (λ s. pins_read (gate_line c (slice_get [] s))) k) [] in
    omega (arith, before, long)
front_few c (x ∷ xs) (suc k) =
    let shifted = rows_shifted (λ s. pins_read (gate_line c (slice_get (x ∷ xs) s))) k in
    let own : length (pins_read (gate_line c (Some x))) ≤ length (read x) = pins_few c x in
    let later : length (rows_before (λ s. pins_read (gate_line c (slice_get xs s))) k)
    ≤ length (flat_map read xs) = front_few c xs k in
    let both : length (read x ++ flat_map read xs) ≡ length (read x) + length (flat_map read xs) =
    length-append (read x) (flat_map read xs) in
    omega (arith, shifted, own, later, both)

-- the statements that define a signal read no more than all statements
defining_few : (c : List Statement)
    → length (flat_map read (filter defines c)) ≤ length (flat_map read c)
defining_few [] = omega arith
defining_few (Input n ∷ c) = defining_few c
defining_few (Output n ∷ c) =
    let later : length (flat_map read (filter defines c)) ≤ length (flat_map read c) =
    defining_few c in
    omega (arith, later)
defining_few (Dff q d ∷ c) =
    let later : length (flat_map read (filter defines c)) ≤ length (flat_map read c) =
    defining_few c in
    omega (arith, later)
defining_few (Gate n kind args ∷ c) =
    let later : length (flat_map read (filter defines c)) ≤ length (flat_map read c) =
    defining_few c in
    let front = length-append args (flat_map read (filter defines c)) in
    let all = length-append args (flat_map read c) in
    omega (arith, later, front, all)

-- the gates of a circuit have no more pins than its limit on sinks
pub pins_within : (c : List Statement) (k : ℕ) → IsCircuit c
    → length (rows_before (fan_in c) k) ≤ max_sinks
pins_within c k is =
    let front : length (rows_before (fan_in c) k) ≤ length (flat_map read (filter defines c)) =
    front_few c (filter defines c) k in
    let all : length (flat_map read (filter defines c)) ≤ length (flat_map read c) =
    defining_few c in
    omega (arith, front, all, is.sinks)
