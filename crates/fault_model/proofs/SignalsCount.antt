-- How many sinks there are: each place that reads is a sink of one name.
use Rattle.std.proofs.Common.{◌≡◌, ◌≤◌, ℕ, ◌+◌, refl, sym, ◌∙◌, subst, Bool, true, false, List, []}
use Rattle.std.proofs.Common.{◌∷◌, ◌++◌, length, arith, inl, inr, length-append}
use Rattle.std.specs.{Prelude.{map, filter, flat_map, bytes_eq, if◌then◌else◌}, List.enumerate_from}
use Rattle.std.proofs.Math.ListN.{length-map}
use Rattle.bench_net.{specs.declared.Sink.TheVariants.{Pin, Data, Out}, proofs.Public.same_bytes}
use Rattle.bench_net.specs.Statement.{Name, Statement, Input, Output, Gate, Dff, read}
use Rattle.bench_net.specs.Scan.{names, signal, outputs, cell, places, pins_of, sinks}
use Rattle.bench_net.specs.Circuit.{IsWellFormed, sink_count}
use Rattle.list_lemmas.proofs.{Members.Among, Distinct.{Distinct, distinct_from_pairs}}

-- the number of times that a name is in a list
abbrev count : Name → List Name → ℕ
count n [] = 0
count n (m ∷ ns) = if bytes_eq n m then 1 + count n ns else count n ns

count-append : (n : Name) (xs ys : List Name) → count n (xs ++ ys) ≡ count n xs + count n ys
count-append n [] ys = omega arith
count-append n (m ∷ xs) ys = go (bytes_eq n m) (count-append n xs ys)
  where
    go : (b : Bool) → count n (xs ++ ys) ≡ count n xs + count n ys
        → (if b then 1 + count n (xs ++ ys) else count n (xs ++ ys))
        ≡ (if b then 1 + count n xs else count n xs) + count n ys
    go true e = omega (arith, e)
    go false e = e

length_kept : (n : Name) (from : ℕ) (ns : List Name)
    → length (filter (λ at. bytes_eq n at.1) (enumerate_from from ns)) ≡ count n ns
length_kept n from [] = refl
length_kept n from (m ∷ ns) = go (bytes_eq n m) refl (length_kept n (from + 1) ns)
  where
    go : (b : Bool) → bytes_eq n m ≡ b
        → length (filter (λ at. bytes_eq n at.1) (enumerate_from (from + 1) ns)) ≡ count n ns
        → length (filter (λ at. bytes_eq n at.1) (enumerate_from from (m ∷ ns))) ≡ count n (m ∷ ns)
    go true e h = rw e (omega (arith, h))
    go false e h = rw e h

length_places : (n : Name) (ns : List Name) → length (places n ns) ≡ count n ns
length_places n ns = length-map (filter (λ at. bytes_eq n at.1) (enumerate_from 0 ns)) (λ at. at.0)
    ∙ length_kept n 0 ns

-- the readers of a name are the places that read it
read_by : (c cs : List Statement) (n : Name)
    → length (flat_map (pins_of c n) cs) + count n (outputs cs) ≡ count n (flat_map read cs)
read_by c [] n = refl
read_by c (Input m ∷ cs) n = read_by c cs n
read_by c (Output m ∷ cs) n = go (bytes_eq n m) (read_by c cs n)
  where
    go : (b : Bool)
        → length (flat_map (pins_of c n) cs) + count n (outputs cs) ≡ count n (flat_map read cs)
        → length (flat_map (pins_of c n) cs)
        + (if b then 1 + count n (outputs cs) else count n (outputs cs))
        ≡ (if b then 1 + count n (flat_map read cs) else count n (flat_map read cs))
    go true e = omega (arith, e)
    go false e = e
read_by c (Gate g kind args ∷ cs) n =
    let here : length (map (λ pin. Pin (signal c g) pin) (places n args)) ≡ count n args =
    length-map (places n args) (λ pin. Pin (signal c g) pin) ∙ length_places n args in
    let both : length
    (map (λ pin. Pin (signal c g) pin) (places n args) ++ flat_map (pins_of c n) cs)
    ≡ length (map (λ pin. Pin (signal c g) pin) (places n args)) + length
    (flat_map (pins_of c n) cs) =
    length-append (map (λ pin. Pin (signal c g) pin) (places n args)) (flat_map (pins_of c n) cs) in
    let here_and_later : count n (args ++ flat_map read cs)
    ≡ count n args + count n (flat_map read cs) = count-append n args (flat_map read cs) in
    let later : length (flat_map (pins_of c n) cs) + count n (outputs cs)
    ≡ count n (flat_map read cs) = read_by c cs n in
    omega (arith, here, both, here_and_later, later)
read_by c (Dff q d ∷ cs) n = go (bytes_eq n d) (read_by c cs n)
  where
    go : (b : Bool)
        → length (flat_map (pins_of c n) cs) + count n (outputs cs) ≡ count n (flat_map read cs)
        → length ((if b then Data (cell c q) ∷ [] else []) ++ flat_map (pins_of c n) cs)
        + count n (outputs cs)
        ≡ (if b then 1 + count n (flat_map read cs) else count n (flat_map read cs))
    go true e = omega (arith, e)
    go false e = e

length_sinks : (c : List Statement) (n : Name) → length (sinks c n) ≡ count n (flat_map read c)
length_sinks c n =
    let both : length (flat_map (pins_of c n) c ++ map Out (places n (outputs c)))
    ≡ length (flat_map (pins_of c n) c) + length (map Out (places n (outputs c)))
    = length-append (flat_map (pins_of c n) c) (map Out (places n (outputs c))) in
    let out : length (map Out (places n (outputs c))) ≡ count n (outputs c) =
    length-map (places n (outputs c)) Out ∙ length_places n (outputs c) in
    let all : length (flat_map (pins_of c n) c) + count n (outputs c) ≡ count n (flat_map read c) =
    read_by c c n in
    omega (arith, both, out, all)

-- a number for each of some names, summed up
abbrev pub sum_over : (Name → ℕ) → List Name → ℕ
sum_over f [] = 0
sum_over f (n ∷ ns) = f n + sum_over f ns

sum_none : (ns : List Name) → sum_over (λ n. 0) ns ≡ 0
sum_none [] = refl
sum_none (n ∷ ns) = let h : sum_over (λ n. 0) ns ≡ 0 = sum_none ns in omega (arith, h)

sum_same : (f g : Name → ℕ) (ns : List Name) → ((n : Name) → f n ≡ g n)
    → sum_over f ns ≡ sum_over g ns
sum_same f g [] same = refl
sum_same f g (n ∷ ns) same = rw (same n, sum_same f g ns same) refl

-- a name that isn't among the names adds nothing, one that is adds one
not_among : (x : Name) (xs ns : List Name) → (Among x ns → ⊥)
    → sum_over (λ n. count n (x ∷ xs)) ns ≡ sum_over (λ n. count n xs) ns
not_among x xs [] other = refl
not_among x xs (m ∷ ns) other = go (bytes_eq m x) refl (not_among x xs ns (λ a. other (inr a)))
  where
    go : (b : Bool) → bytes_eq m x ≡ b
        → sum_over (λ n. count n (x ∷ xs)) ns ≡ sum_over (λ n. count n xs) ns
        → (if b then 1 + count m xs else count m xs) + sum_over (λ n. count n (x ∷ xs)) ns
        ≡ count m xs + sum_over (λ n. count n xs) ns
    go true e h = absurd (other (inl (same_bytes m x e)))
    go false e h = omega (arith, h)

one_more : (x : Name) (xs ns : List Name) → Distinct ns
    → sum_over (λ n. count n (x ∷ xs)) ns ≤ 1 + sum_over (λ n. count n xs) ns
one_more x xs [] d = omega arith
one_more x xs (m ∷ ns) d = go (bytes_eq m x) refl (one_more x xs ns d.1)
  where
    go : (b : Bool) → bytes_eq m x ≡ b
        → sum_over (λ n. count n (x ∷ xs)) ns ≤ 1 + sum_over (λ n. count n xs) ns
        → (if b then 1 + count m xs else count m xs) + sum_over (λ n. count n (x ∷ xs)) ns
        ≤ 1 + (count m xs + sum_over (λ n. count n xs) ns)
    go true e h =
        let same : sum_over (λ n. count n (x ∷ xs)) ns ≡ sum_over (λ n. count n xs) ns =
        not_among x xs ns (λ a. d.0 (subst (λ y. Among y ns) (sym (same_bytes m x e)) a)) in
        omega (arith, same)
    go false e h = omega (arith, h)

counted : (xs ns : List Name) → Distinct ns → sum_over (λ n. count n xs) ns ≤ length xs
counted [] ns d = let h : sum_over (λ n. 0) ns ≡ 0 = sum_none ns in omega (arith, h)
counted (x ∷ xs) ns d =
    let more : sum_over (λ n. count n (x ∷ xs)) ns ≤ 1 + sum_over (λ n. count n xs) ns =
    one_more x xs ns d in
    let h : sum_over (λ n. count n xs) ns ≤ length xs = counted xs ns d in
    omega (arith, more, h)

-- the sinks of all names together are no more than the places that read
pub sinks_counted : (c : List Statement) → IsWellFormed c
    → sum_over (λ n. length (sinks c n)) (names c) ≤ sink_count c
sinks_counted c well =
    let same : sum_over (λ n. length (sinks c n)) (names c)
    ≡ sum_over (λ n. count n (flat_map read c)) (names c)
    = sum_same (λ n. length (sinks c n)) (λ n. count n (flat_map read c)) (names c) (length_sinks c)
    in
    let most : sum_over (λ n. count n (flat_map read c)) (names c) ≤ length (flat_map read c) =
    counted (flat_map read c) (names c) (distinct_from_pairs (names c) well.once) in
    omega (arith, same, most)
