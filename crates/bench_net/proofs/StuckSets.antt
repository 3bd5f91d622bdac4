-- Stuck sets: a numbering of names exists exactly if only the empty set is stuck, and so a circuit
-- has a source.
use Rattle.std.proofs.Common.{◌≡◌, ◌<◌, ◌≤◌, ◌+◌, ℕ, zero, suc, ap, refl, cond, Bool, true, false}
use Rattle.std.proofs.Common.{◌&&◌, List, [], ◌∷◌, length, filter, arith, inl, inr}
use Rattle.std.specs.Prelude.{IsTrue, Contains, flat_map, bytes_eq, if◌then◌else◌}
use Rattle.std.{specs.List.{list_all, list_any}, proofs.lemmas.List.nil_from_length}
use Rattle.std.proofs.lemmas.Bool.{false_from_ne_true, and_parts, and_from, cond_both}
use Rattle.std.proofs.lemmas.{List.Elements.Contains-get_or, Grind.common_steps}
use Rattle.std.proofs.lemmas.List.Sums.{length-filter, count_by-le-length}
use Rattle.bench_net.specs.{declared.Kind.Kind, Scan.{names, sources}, Circuit.IsCircuit}
use Rattle.bench_net.specs.Statement.{Name, Statement, Output, Gate, defined, read}
use Rattle.bench_net.specs.Circuit.{HasArgument, IsNumbering, IsStuckSet, IsStuck, IsWellFormed}
use Rattle.bench_net.{specs.reader.Entries.is_in, proofs.Names.read_named, proofs.Reader.some_args}
use Rattle.bench_net.proofs.Names.{bytes_refl, same_bytes, any_true, among_in, in_contained}
use Rattle.list_lemmas.proofs.Members.{Among, among, contained, among_joined, among_filter}
use Rattle.list_lemmas.proofs.Members.{each_passes, some_passes}

-- ---- from a numbering to no stuck set

descend : (c : List Statement) (number : Name → ℕ) (members : Name → Bool) → IsNumbering c number
    → IsStuckSet c members → (bound : ℕ) (n : Name) → number n < bound → IsTrue (members n) → ⊥
descend c number members numbered stuck zero n lt inside = omega (arith, lt)
descend c number members numbered stuck (suc bound) n lt inside =
    let (a, arg, in_a) = stuck n inside in
    descend c number members numbered stuck bound a (omega (arith, lt, numbered n a arg)) in_a

pub none_stuck : (c : List Statement) (number : Name → ℕ) → IsNumbering c number
    → (members : Name → Bool) → IsStuckSet c members → (n : Name) → ¬ IsTrue (members n)
none_stuck c number numbered members stuck n inside =
    descend c number members numbered stuck (number n + 1) n (omega arith) inside

-- ---- the names that are left after some rounds

-- a gate has this name and an argument among those
abbrev pub gate_fed : List Name → Name → Statement → Bool
gate_fed ns n (Gate m kind args) = bytes_eq n m && list_any (is_in ns) args
gate_fed ns n _ = false

abbrev pub is_fed : List Statement → List Name → Name → Bool
is_fed c ns n = list_any (gate_fed ns n) c

-- names each of which has a gate line with an argument among them are a stuck set
pub stuck : (c : List Statement) (ns : List Name)
    → list_all (λ n. list_any (gate_fed ns n) c) ns ≡ true → IsStuckSet c (is_in ns)
stuck c ns e n inside =
    let s = some_passes _ c (each_passes (is_fed c ns) ns n e (in_contained ns n inside)) in
    go s.0 s.1 s.2
  where
    go : (s : Statement) → Contains c s → gate_fed ns n s ≡ true
        → (a : Name) × HasArgument c n a × IsTrue (is_in ns a)
    go (Gate m kind args) at passes =
        let p = and_parts (bytes_eq n m) (list_any (is_in ns) args) passes in
        let a = some_passes (is_in ns) args p.1 in
        (a.0, (kind, args, rw (same_bytes n m p.0) at, a.1), a.2)
    go _ at passes = cc

-- the names that are left after a number of rounds, each of which keeps the names fed by a name
-- left before, or of names that all are
abbrev pub left_over : List Statement → ℕ → List Name → List Name
left_over c zero ns = ns
left_over c (suc k) ns =
    if list_all (is_fed c ns) ns then ns else left_over c k (filter (is_fed c ns) ns)

abbrev pub stuck_names : List Statement → List Name
stuck_names c = left_over c (length (names c)) (names c)

-- if not all of a list pass, fewer pass
fewer : {X : Type 0} (p : X → Bool) (xs : List X) → list_all p xs ≡ false
    → length (filter p xs) < length xs
fewer p [] e = let bad : true ≡ false = e in cc
fewer p (x ∷ xs) e = grind (arith, fewer p xs, length-filter p xs, count_by-le-length p xs)

-- after as many rounds as there are names, each that is left is fed by one that is
left_fed : (c : List Statement) (k : ℕ) (ns : List Name) → length ns ≤ k
    → list_all (is_fed c (left_over c k ns)) (left_over c k ns) ≡ true
left_fed c zero ns h = rw (nil_from_length ns (omega (arith, h))) refl
left_fed c (suc k) ns h =
    grind (arith, h, left_fed c k (filter (is_fed c ns) ns), fewer (is_fed c ns) ns)

pub stuck_set : (c : List Statement) → IsStuckSet c (is_in (stuck_names c))
stuck_set c = stuck c (stuck_names c) (left_fed c (length (names c)) (names c) (omega arith))

-- a gate's name is defined, and fed by names that have one of its arguments
gate_named : (c : List Statement) (n a : Name) → HasArgument c n a → Among n (names c)
gate_named c n a h =
    among_joined defined c (Gate n h.0 h.1) n (among c (Gate n h.0 h.1) h.2) (inl refl)

argument_feeds : (c : List Statement) (ns : List Name) (n a : Name) → HasArgument c n a
    → Among a ns → is_fed c ns n ≡ true
argument_feeds c ns n a h inside = any_true (gate_fed ns n) c (Gate n h.0 h.1) h.2
    (and_from _ _ (bytes_refl n) (any_true (is_in ns) h.1 a h.3 (among_in ns a inside)))

-- a stuck set stays
stays : (c : List Statement) (members : Name → Bool) → IsStuckSet c members
    → (k : ℕ) (ns : List Name) → ((n : Name) → IsTrue (members n) → Among n ns)
    → (n : Name) → IsTrue (members n) → Among n (left_over c k ns)
stays c members set zero ns all n inside = all n inside
stays c members set (suc k) ns all n inside =
    cond_both (list_all (is_fed c ns) ns) _ _ (Among n) (λ _. all n inside)
    (λ _. stays c members set k _ (λ m has. let (a, arg, in_a) = set m has in
    among_filter _ ns m (all m has) (argument_feeds c ns m a arg (all a in_a))) n inside)

pub stuck_left : (c : List Statement) (n : Name) → IsStuck c n → is_in (stuck_names c) n ≡ true
stuck_left c n stuck =
    among_in (stuck_names c) n (stays c stuck.0 stuck.1 (length (names c)) (names c)
    (λ m inside. let next = stuck.1 m inside in gate_named c m next.0 next.1) n stuck.2)

-- ---- the number of rounds in which a name is left

abbrev rank : List Statement → ℕ → List Name → Name → ℕ
rank c zero ns n = 0
rank c (suc k) ns n = cond (is_in ns n) (suc (rank c k (filter (is_fed c ns) ns) n)) 0

rises : (c : List Statement) (n a : Name) → HasArgument c n a → (k : ℕ) (ns : List Name)
    → ((m : Name) → ¬ Among m (left_over c k ns)) → Among n ns → rank c k ns a < rank c k ns n
rises c n a h zero ns none inside = absurd (none n inside)
rises c n a h (suc k) ns none inside =
    let off = false_from_ne_true (list_all (is_fed c ns) ns) (λ all. none n (rw all inside)) in
    rw (among_in ns n inside) (cond_both (is_in ns a) _ _
    (λ r. r < suc (rank c k (filter (is_fed c ns) ns) n))
    (λ on. let fed = argument_feeds c ns n a h (among ns a (in_contained ns a on)) in
    let left = among_filter (is_fed c ns) ns n inside fed in
    omega (arith, rises c n a h k (filter (is_fed c ns) ns) (λ m. rw off at (none m)) left))
    (λ off. omega arith))

pub numbering : (c : List Statement)
    → ((members : Name → Bool) → IsStuckSet c members → (n : Name) → ¬ IsTrue (members n))
    → (number : Name → ℕ) × IsNumbering c number
numbering c free = (
  rank c (length (names c)) (names c),
  λ n a h. rises c n a h (length (names c)) (names c)
      (λ m left. free (is_in (stuck_names c)) (stuck_set c) m (among_in _ m left))
      (gate_named c n a h),
)

-- ---- a circuit has a source

-- a well-formed list defines a name
pub some_signal : (c : List Statement) → IsWellFormed c → 0 < length (names c)
some_signal [] well = absurd (well.some refl)
some_signal (Output n ∷ c) well = let at = well.all_defined n
    (contained (flat_map read (Output n ∷ c)) n (inl refl)) in omega (arith, at.1)
some_signal (_ ∷ c) well = omega arith

-- if there is no source, each defined name is a gate's
driven : (c : List Statement) → length (sources c) ≤ 0 → (n : Name) → Among n (names c)
    → (kind : Kind) × (args : List Name) × Among (Gate n kind args) c
driven [] none n a = absurd a
driven (Output m ∷ c) none n a = let g = driven c none n a in (g.0, g.1, inr g.2)
driven (Gate m kind args ∷ c) none n (inl e) = (kind, args, inl (ap (λ x. Gate x kind args) e))
driven (Gate m kind args ∷ c) none n (inr a) = let g = driven c none n a in (g.0, g.1, inr g.2)
driven (_ ∷ c) none n a = absurd (grind (arith, common_steps, none))

-- so all defined names would be stuck
pub some_source : (c : List Statement) → IsCircuit c → 1 ≤ length (sources c)
some_source c is =
    let (number, numbers) = is.well_formed.acyclic in
    let some = Contains-get_or (names c) 0 [] (some_signal c is.well_formed) in
    let free = λ (none : length (sources c) ≤ 0).
    none_stuck c number numbers _ (all_stuck none) _ (among_in _ _ (among _ _ some)) in
    grind (arith, free)
  where
    all_stuck : length (sources c) ≤ 0 → IsStuckSet c (is_in (names c))
    all_stuck none n inside =
        let g = driven c none n (among _ n (in_contained (names c) n inside)) in
        let at = contained c (Gate n g.0 g.1) g.2 in
        let first = Contains-get_or g.1 0 [] (some_args g.0 g.1 (is.arities n g.0 g.1 at)) in
        let defined = read_named c _ _ is.well_formed g.2 (among _ _ first) in
        (_, (g.0, g.1, at, first), among_in _ _ (among _ _ defined))
