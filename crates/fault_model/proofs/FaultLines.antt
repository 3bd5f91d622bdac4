-- The fault list is each line stuck at 0 and at 1, no line stands twice, and the lines are within
-- the limits.
use Rattle.std.proofs.Common.{◌≡◌, ◌≤◌, ℕ, zero, suc, ◌+◌, ◌*◌, refl, sym, ◌∙◌, ap, subst, Bool}
use Rattle.std.proofs.Common.{true, false, List, [], ◌∷◌, ◌++◌, length, arith, inl, inr}
use Rattle.std.{proofs.Common.length-append, specs.Prelude.if◌then◌else◌, specs.List.enumerate_from}
use Rattle.std.specs.Prelude.{Some, slice_get, map, flat_map, filter, nat_le, option_map}
use Rattle.std.proofs.lemmas.List.{length-map, Concat.flat_map-append}
use Rattle.bench_net.specs.{declared.Sink.Sink, Statement.{Name, Statement}, Scan.{names, sinks}}
use Rattle.bench_net.specs.Circuit.{IsWellFormed, IsCircuit, sink_count, max_signals, max_sinks}
use Rattle.bench_net.specs.declared.Sink.TheVariants as sink
use Rattle.list_lemmas.proofs.Members.{Among, joined_from, mapped_from, filtered_from}
use Rattle.list_lemmas.proofs.Distinct.{Distinct, distinct_from_pairs, one_place_of}
use Rattle.list_lemmas.proofs.Distinct.{distinct_append, distinct_map}
use Rattle.list_lemmas.proofs.Places.{numbered_from, at_place}
use Rattle.fault_model.{proofs.SignalsOnce.{sinks_once, one_read}, specs.declared.Line.Line}
use Rattle.fault_model.{proofs.SignalsCount.{sum_over, sinks_counted}, specs.declared.Model.Model}
use Rattle.fault_model.specs.Fault.{Fault, branch, branches, both, faults_of, faults}
use Rattle.fault_model.proofs.ListedFaults.{fault_on, branch_among, on_both}
use Rattle.fault_model.specs.declared.Line.TheVariants as line

-- the lines of one signal: its stem, then its branches
abbrev pub lines_of : List Statement → ℕ × Name → List Line
lines_of c at = line.Stem at.0 ∷ map branch (branches c at.1)

-- the lines of all signals, in the order of the fault list
abbrev pub lines : List Statement → List Line
lines c = flat_map (lines_of c) (enumerate_from 0 (names c))

joined_map : {X Y Z : Type 0} (f : Y → List Z) (g : X → Y) (xs : List X)
    → flat_map f (map g xs) ≡ flat_map (λ x. f (g x)) xs
joined_map f g [] = refl
joined_map f g (x ∷ xs) = ap (λ zs. f (g x) ++ zs) (joined_map f g xs)

joined_same : {X Y : Type 0} (f g : X → List Y) (xs : List X) → ((x : X) → f x ≡ g x)
    → flat_map f xs ≡ flat_map g xs
joined_same f g [] same = refl
joined_same f g (x ∷ xs) same = rw (same x, joined_same f g xs same) refl

joined_twice : {X Y Z : Type 0} (f : Y → List Z) (g : X → List Y) (xs : List X)
    → flat_map f (flat_map g xs) ≡ flat_map (λ x. flat_map f (g x)) xs
joined_twice f g [] = refl
joined_twice f g (x ∷ xs) = flat_map-append f (g x) (flat_map g xs)
    ∙ ap (λ zs. flat_map f (g x) ++ zs) (joined_twice f g xs)

pub faults_are : (m : Model) (c : List Statement) → flat_map (both m) (lines c) ≡ faults m c
faults_are m c = joined_twice (both m) (lines_of c) (enumerate_from 0 (names c))
    ∙ joined_same (λ at. flat_map (both m) (lines_of c at)) (faults_of m c)
    (enumerate_from 0 (names c))
    (λ at. ap (λ zs. both m (line.Stem at.0) ++ zs) (joined_map (both m) branch (branches c at.1)))

-- the fault list is twice as long as the lines
pub length_both : (m : Model) (ls : List Line) → length (flat_map (both m) ls) ≡ 2 * length ls
length_both m [] = refl
length_both m (l ∷ ls) =
    let h : length (flat_map (both m) ls) ≡ 2 * length ls = length_both m ls in omega (arith, h)

-- the entry at an even place, and at an odd one
pub at_even : (m : Model) (ls : List Line) (i : ℕ) → slice_get (flat_map (both m) ls) (i + i)
    ≡ option_map (λ l. fault_on m l false) (slice_get ls i)
at_even m [] i = refl
at_even m (l ∷ ls) zero = refl
at_even m (l ∷ ls) (suc i) =
    let two : suc i + suc i ≡ suc (suc (i + i)) = omega arith in rw two (at_even m ls i)

pub at_odd : (m : Model) (ls : List Line) (i : ℕ) → slice_get (flat_map (both m) ls) (suc (i + i))
    ≡ option_map (λ l. fault_on m l true) (slice_get ls i)
at_odd m [] i = refl
at_odd m (l ∷ ls) zero = refl
at_odd m (l ∷ ls) (suc i) =
    let two : suc i + suc i ≡ suc (suc (i + i)) = omega arith in rw two (at_odd m ls i)

-- no branch is a stem
pub branch_no_stem : (k : Sink) (s : ℕ) → branch k ≡ line.Stem s → ⊥
branch_no_stem (sink.Pin g p) s e = let bad : line.Pin g p ≡ line.Stem s = e in cc
branch_no_stem (sink.Data i) s e = let bad : line.Data i ≡ line.Stem s = e in cc
branch_no_stem (sink.Out i) s e = let bad : line.Out i ≡ line.Stem s = e in cc

branch_apart : (j k : Sink) → branch j ≡ branch k → j ≡ k
branch_apart (sink.Pin g p) (sink.Pin h q) e =
    let it : line.Pin g p ≡ line.Pin h q = e in let a : g ≡ h = cc in let b : p ≡ q = cc in cc
branch_apart (sink.Pin g p) (sink.Data j) e = let it : line.Pin g p ≡ line.Data j = e in cc
branch_apart (sink.Pin g p) (sink.Out j) e = let it : line.Pin g p ≡ line.Out j = e in cc
branch_apart (sink.Data i) (sink.Pin h q) e = let it : line.Data i ≡ line.Pin h q = e in cc
branch_apart (sink.Data i) (sink.Data j) e =
    let it : line.Data i ≡ line.Data j = e in let a : i ≡ j = cc in cc
branch_apart (sink.Data i) (sink.Out j) e = let it : line.Data i ≡ line.Out j = e in cc
branch_apart (sink.Out i) (sink.Pin h q) e = let it : line.Out i ≡ line.Pin h q = e in cc
branch_apart (sink.Out i) (sink.Data j) e = let it : line.Out i ≡ line.Data j = e in cc
branch_apart (sink.Out i) (sink.Out j) e =
    let it : line.Out i ≡ line.Out j = e in let a : i ≡ j = cc in cc

module _ (c : List Statement) (well : IsWellFormed c) where
  branches_once : (n : Name) → Distinct (branches c n)
  branches_once n = go (nat_le 2 (length (sinks c n)))
    where
      go : (b : Bool) → Distinct (if b then sinks c n else [])
      go true = sinks_once c well n
      go false = tt

  -- a line of one signal isn't a line of the signals after it
  apart : (s : ℕ) (n : Name) (ns : List Name) → (Among n ns → ⊥) → (l : Line)
      → Among l (lines_of c (s, n)) → Among l (flat_map (lines_of c) (enumerate_from (s + 1) ns))
      → ⊥
  apart s n ns fresh l a b =
      let p = joined_from (lines_of c) (enumerate_from (s + 1) ns) l b in
      let q = numbered_from ns (s + 1) p.0 p.1 in
      go p.0 q.0 q.1 q.2 a p.2
    where
      go : (at : ℕ × Name) (i : ℕ) → at.0 ≡ s + 1 + i → slice_get ns i ≡ Some at.1
          → Among l (lines_of c (s, n)) → Among l (lines_of c at) → ⊥
      go at i far there (inl e) (inl g) =
          let same : line.Stem s ≡ line.Stem at.0 = e ∙ sym g in
          let k : s ≡ at.0 = cc in
          absurd (omega (arith, k, far))
      go at i far there (inl e) (inr h) =
          let p = mapped_from branch (branches c at.1) l h in branch_no_stem p.0 s (p.2 ∙ sym e)
      go at i far there (inr h) (inl g) =
          let p = mapped_from branch (branches c n) l h in branch_no_stem p.0 at.0 (p.2 ∙ sym g)
      go at i far there (inr h) (inr j) =
          let p = mapped_from branch (branches c n) l h in
          let q = mapped_from branch (branches c at.1) l j in
          let same : q.0 ≡ p.0 = branch_apart q.0 p.0 (q.2 ∙ sym p.2) in
          let one : n ≡ at.1 = one_read c p.0 n at.1 well (branch_among c n p.0 p.1)
          (branch_among c at.1 p.0 (subst (λ k. Among k (branches c at.1)) same q.1)) in
          fresh (subst (λ m. Among m ns) (sym one) (at_place ns i at.1 there))

  lines_once : (s : ℕ) (ns : List Name) → Distinct ns
      → Distinct (flat_map (lines_of c) (enumerate_from s ns))
  lines_once s [] d = tt
  lines_once s (n ∷ ns) d =
      distinct_append (lines_of c (s, n)) (flat_map (lines_of c) (enumerate_from (s + 1) ns)) own
      (lines_once (s + 1) ns d.1) (apart s n ns d.0)
    where
      own : Distinct (lines_of c (s, n))
      own = (
        λ a. let p = mapped_from branch (branches c n) (line.Stem s) a in branch_no_stem p.0 s p.2,
        distinct_map branch (branches c n) branch_apart (branches_once n),
      )

  pub distinct_lines : Distinct (lines c)
  distinct_lines = lines_once 0 (names c) (distinct_from_pairs (names c) well.once)

distinct_both : (m : Model) (ls : List Line) → Distinct ls → Distinct (flat_map (both m) ls)
distinct_both m [] d = tt
distinct_both m (l ∷ ls) d =
    distinct_append (both m l) (flat_map (both m) ls) own (distinct_both m ls d.1) apart
  where
    own : Distinct (both m l)
    own = (other, ((λ a. a), tt))
      where
        other : Among {X = Fault} (fault_on m l false) (fault_on m l true ∷ []) → ⊥
        other (inl e) = let bits : true ≡ false = ap (λ x. x.stuck) e in cc
        other (inr bad) = bad

    apart : (f : Fault) → Among f (both m l) → Among f (flat_map (both m) ls) → ⊥
    apart f a b =
        let p = joined_from (both m) ls f b in
        d.0 (subst (λ k. Among k ls) (sym (on_both m p.0 f p.2) ∙ on_both m l f a) p.1)

pub distinct_faults : (m : Model) (c : List Statement) → IsWellFormed c → Distinct (faults m c)
distinct_faults m c well =
    subst Distinct (faults_are m c) (distinct_both m (lines c) (distinct_lines c well))

-- two places of the list with one fault are one place
pub one_fault_place : (m : Model) (c : List Statement) (f : Fault) (i j : ℕ) → IsWellFormed c
    → slice_get (faults m c) i ≡ Some f → slice_get (faults m c) j ≡ Some f → i ≡ j
one_fault_place m c f i j well e g = one_place_of (faults m c) i j f (distinct_faults m c well) e g

pub distinct_filter : {X : Type 0} (test : X → Bool) (xs : List X) → Distinct xs
    → Distinct (filter test xs)
distinct_filter test [] d = tt
distinct_filter {X} test (x ∷ xs) d = go (test x) (distinct_filter test xs d.1)
  where
    go : (b : Bool) → Distinct (filter test xs)
        → Distinct (if b then x ∷ filter test xs else filter test xs)
    go true later = ((λ a. d.0 (filtered_from test xs x a).0), later)
    go false later = later

-- the number of lines
few_branches : (c : List Statement) (n : Name) → length (branches c n) ≤ length (sinks c n)
few_branches c n = go (nat_le 2 (length (sinks c n)))
  where
    go : (b : Bool) → length (if b then sinks c n else []) ≤ length (sinks c n)
    go true = omega arith
    go false = omega arith

few_lines : (c : List Statement) (s : ℕ) (ns : List Name)
    → length (flat_map (lines_of c) (enumerate_from s ns))
    ≤ length ns + sum_over (λ n. length (sinks c n)) ns
few_lines c s [] = omega arith
few_lines c s (n ∷ ns) =
    let later : length (flat_map (lines_of c) (enumerate_from (s + 1) ns))
    ≤ length ns + sum_over (λ n. length (sinks c n)) ns = few_lines c (s + 1) ns in
    let own : length (map branch (branches c n)) ≡ length (branches c n) =
    length-map (branches c n) branch in
    let few : length (branches c n) ≤ length (sinks c n) = few_branches c n in
    let parts :
    length (map branch (branches c n) ++ flat_map (lines_of c) (enumerate_from (s + 1) ns))
    ≡ length (map branch (branches c n))
    + length (flat_map (lines_of c) (enumerate_from (s + 1) ns))
    = length-append (map branch (branches c n)) (flat_map (lines_of c) (enumerate_from (s + 1) ns))
    in omega (arith, later, own, few, parts)

pub lines_within : (c : List Statement) → IsCircuit c → length (lines c) ≤ max_signals + max_sinks
lines_within c is =
    let all : length (lines c) ≤ length (names c) + sum_over (λ n. length (sinks c n)) (names c) =
    few_lines c 0 (names c) in
    let read : sum_over (λ n. length (sinks c n)) (names c) ≤ sink_count c =
    sinks_counted c is.well_formed in
    omega (arith, all, read, is.signals, is.sinks)

-- and so the number of faults
pub faults_within : (m : Model) (c : List Statement) → IsCircuit c
    → length (faults m c) ≤ 2 * (max_signals + max_sinks)
faults_within m c is =
    let same : length (flat_map (both m) (lines c)) ≡ length (faults m c) =
    ap length (faults_are m c) in
    let twice : length (flat_map (both m) (lines c)) ≡ 2 * length (lines c) =
    length_both m (lines c) in
    let few : length (lines c) ≤ max_signals + max_sinks = lines_within c is in
    omega (arith, same, twice, few)
