-- Statements in another order: the same names, each defined once, and a circuit again.
use Rattle.std.proofs.Common.{◌≡◌, ◌≤◌, ℕ, suc, ◌+◌, refl, sym, ◌∙◌, ap, subst, Bool, true, false}
use Rattle.std.{proofs.Common.{cond, List, [], ◌∷◌, length, arith, inl, inr}, specs.List.sum_by}
use Rattle.std.specs.Prelude.{Contains, IsPermutation, AllPairs, ◌≢◌, bytes_eq, flat_map}
use Rattle.std.proofs.lemmas.List.{Concat.length-flat_map, Sums.{sum_by-cons, sum_by-append}}
use Rattle.std.proofs.lemmas.List.Sorted.{Contains-permutation, IsPermutation-sym}
use Rattle.std.proofs.lemmas.List.Sorted.{length_permutation, sum_by-IsPermutation}
use Rattle.std.proofs.lemmas.List.{Kept.AllPairs-cons, Elements.Contains-get_or}
use Rattle.bench_net.specs.{Statement.{Name, Statement, Gate, defined, read}, Scan.names}
use Rattle.bench_net.specs.Circuit.{IsWellFormed, IsCircuit, sink_count}
use Rattle.bench_net.proofs.Public.{bytes_refl, same_bytes}
use Rattle.list_lemmas.proofs.Members.{Among, among, contained, among_joined, joined_from}
use Rattle.list_lemmas.proofs.Distinct.{Distinct, distinct_from_pairs}

-- ---- the values of the statements one after another, in another order

pub length_reordered : {X Y : Type 0} (f : X → List Y) (xs ys : List X) → IsPermutation xs ys
    → length (flat_map f ys) ≡ length (flat_map f xs)
length_reordered f xs ys p = length-flat_map f ys
    ∙ (sum_by-IsPermutation (λ x. length (f x)) xs ys p ∙ sym (length-flat_map f xs))

pub given_reordered : {X Y : Type 0} (f : X → List Y) (xs ys : List X) (y : Y)
    → IsPermutation xs ys → Contains (flat_map f xs) y → Contains (flat_map f ys) y
given_reordered f xs ys y p at =
    let from = joined_from f xs y (among (flat_map f xs) y at) in
    let there = Contains-permutation xs ys from.0 p (contained xs from.0 from.1) in
    contained (flat_map f ys) y (among_joined f ys from.0 y (among ys from.0 there) from.2)

-- ---- the number of times that a name is in a list

abbrev is_it : Name → Name → ℕ
is_it n m = cond (bytes_eq n m) 1 0

abbrev times : Name → List Name → ℕ
times n ns = sum_by (is_it n) ns

times_own : (n : Name) (ns : List Name) → times n (n ∷ ns) ≡ 1 + times n ns
times_own n ns = sum_by-cons (is_it n) n ns ∙ ap (λ b. cond b 1 0 + times n ns) (bytes_refl n)

times_grow : (n m : Name) (ns : List Name) → times n ns ≤ times n (m ∷ ns)
times_grow n m ns =
    let e : times n (m ∷ ns) ≡ is_it n m + times n ns = sum_by-cons (is_it n) m ns in
    omega (arith, e)

some_times : (n : Name) (ns : List Name) → Among n ns → 1 ≤ times n ns
some_times n [] a = absurd a
some_times n (m ∷ ns) (inl e) =
    let own : times n (n ∷ ns) ≡ 1 + times n ns = times_own n ns in
    subst (λ x. 1 ≤ times n (x ∷ ns)) (sym e) (omega (arith, own))
some_times n (m ∷ ns) (inr a) = omega (arith, times_grow n m ns, some_times n ns a)

no_times : (n : Name) (ns : List Name) → (Among n ns → ⊥) → times n ns ≡ 0
no_times n [] none = refl
no_times n (m ∷ ns) none = go (bytes_eq n m) refl (no_times n ns (λ a. none (inr a)))
  where
    go : (b : Bool) → bytes_eq n m ≡ b → times n ns ≡ 0 → times n (m ∷ ns) ≡ 0
    go true e later = absurd (none (inl (sym (same_bytes n m e))))
    go false e later =
        let is : times n (m ∷ ns) ≡ 0 + times n ns =
        sum_by-cons (is_it n) m ns ∙ ap (λ b. cond b 1 0 + times n ns) e in
        omega (arith, is, later)

once_times : (n : Name) (ns : List Name) → Distinct ns → times n ns ≤ 1
once_times n [] d = omega arith
once_times n (m ∷ ns) d = go (bytes_eq n m) refl (once_times n ns d.1)
  where
    go : (b : Bool) → bytes_eq n m ≡ b → times n ns ≤ 1 → times n (m ∷ ns) ≤ 1
    go true e later =
        let same : n ≡ m = same_bytes n m e in
        let none : times n ns ≡ 0 = no_times n ns (λ a. d.0 (subst (λ x. Among x ns) same a)) in
        let is : times n (m ∷ ns) ≡ 1 + times n ns =
        sum_by-cons (is_it n) m ns ∙ ap (λ b. cond b 1 0 + times n ns) e in
        omega (arith, none, is)
    go false e later =
        let is : times n (m ∷ ns) ≡ 0 + times n ns =
        sum_by-cons (is_it n) m ns ∙ ap (λ b. cond b 1 0 + times n ns) e in
        omega (arith, is, later)

pairs_by_times : (ns : List Name) → ((n : Name) → times n ns ≤ 1) → AllPairs (λ m n. m ≢ n) ns
pairs_by_times [] few = λ i j e lt len. absurd (omega (arith, len))
pairs_by_times (m ∷ ns) few = AllPairs-cons (λ x y. x ≢ y) m ns (λ k e h same. no_second
    (subst (λ x. Among x ns) (sym same) (among ns _ (Contains-get_or ns k e h))))
    (pairs_by_times ns (λ n. omega (arith, few n, times_grow n m ns)))
  where
    no_second : Among m ns → ⊥
    no_second a =
        let own : times m (m ∷ ns) ≡ 1 + times m ns = times_own m ns in
        let more : 1 ≤ times m ns = some_times m ns a in
        let most : times m (m ∷ ns) ≤ 1 = few m in
        omega (arith, own, more, most)

times_joined : (f : Statement → List Name) (n : Name) (c : List Statement)
    → times n (flat_map f c) ≡ sum_by (λ st. times n (f st)) c
times_joined f n [] = refl
times_joined f n (st ∷ c) = sum_by-append (is_it n) (f st) (flat_map f c)
    ∙ (ap (λ k. times n (f st) + k) (times_joined f n c)
    ∙ sym (sum_by-cons (λ x. times n (f x)) st c))

once_reordered : (c d : List Statement) → IsPermutation c d → AllPairs (λ m n. m ≢ n) (names c)
    → AllPairs (λ m n. m ≢ n) (names d)
once_reordered c d p once = pairs_by_times (names d) few
  where
    few : (n : Name) → times n (names d) ≤ 1
    few n =
        let same : times n (names d) ≡ times n (names c) = times_joined defined n d
        ∙ (sum_by-IsPermutation (λ st. times n (defined st)) c d p
        ∙ sym (times_joined defined n c)) in
        let most : times n (names c) ≤ 1 =
        once_times n (names c) (distinct_from_pairs (names c) once) in
        omega (arith, same, most)

-- ---- a circuit again

pub well_reordered : (c d : List Statement) → IsPermutation c d → IsWellFormed c → IsWellFormed d
well_reordered c d p well = record {
  some = λ none. well.some (empty c (sym (length_permutation c d p) ∙ ap length none));
  once = once_reordered c d p well.once;
  all_defined = λ n at.
      given_reordered defined c d n p (well.all_defined n (given_reordered read d c n back at));
  acyclic = (
    well.acyclic.0,
    λ n a has. well.acyclic.1 n a (
      has.0,
      has.1,
      Contains-permutation d c (Gate n has.0 has.1) back has.2,
      has.3,
    ),
  );
}
  where
    back : IsPermutation d c
    back = IsPermutation-sym c d p

    empty : (xs : List Statement) → length xs ≡ 0 → xs ≡ []
    empty [] e = refl
    empty (x ∷ xs) e = let bad : suc (length xs) ≡ 0 = e in absurd (omega (arith, bad))

pub circuit_reordered : (c d : List Statement) → IsPermutation c d → IsCircuit c → IsCircuit d
circuit_reordered c d p is = record {
  well_formed = well_reordered c d p is.well_formed;
  arities = λ n kind args at. is.arities n kind args (Contains-permutation d c (Gate n kind args)
      (IsPermutation-sym c d p) at);
  signals =
      let same : length (names d) ≡ length (names c) = length_reordered defined c d p in
      let few = is.signals in
      omega (arith, same, few);
  sinks =
      let same : sink_count d ≡ sink_count c = length_reordered read c d p in
      let few = is.sinks in
      omega (arith, same, few);
}
