-- The rows of the pairs of launch on capture.
use Rattle.std.proofs.Common.{◌≡◌, ◌<◌, ◌≤◌, ◌+◌, ◌-◌, ◌*◌, ◌∙◌, ◌⊎◌, ℕ, zero, suc, Bool, List, []}
use Rattle.std.proofs.Common.{◌∷◌, ◌++◌, ap, arith, drop, get_or, length-drop, inl, inr, length}
use Rattle.std.{proofs.Common.{map, refl, sym, take}, specs.List.enumerate_from}
use Rattle.std.{specs.Prelude.{None, Some, slice_get, slice_index_or}, proofs.lemmas.Bool.cases_lt}
use Rattle.std.proofs.lemmas.List.{get_or-append-add, get_or-drop, get_or-take, get_or_append_left}
use Rattle.std.proofs.lemmas.List.{length-append, length-map, length-take-le, map-append}
use Rattle.std.proofs.{lemmas.List.FromFn.length-enumerate_from, Math.Seq.drop-append_seam}
use Rattle.bench_net.specs.{declared.Sink.Sink, Statement.{Name, Statement}}
use Rattle.bench_net.specs.Scan.{cells, inputs, observers, outputs, sources}
use Rattle.bench_net.specs.declared.Sink.TheVariants as sink
use Rattle.fault_model.specs.Solution.{Test, shows}
use Rattle.patterns.specs.Tests.{TestList}
use Rattle.block_sim.specs.Responses.{AreResponses}
use Rattle.pairs.specs.Pairs.{AreLaunchPairs, ArePairRows, captured}

-- ---- the bits that the observers show

abbrev at_outputs : List (ℕ × Name) → List (Sink × Name)
at_outputs ats = map (λ at. (sink.Out at.0, at.1)) ats

abbrev at_cells : List (ℕ × (Name × Name)) → List (Sink × Name)
at_cells ats = map (λ at. (sink.Data at.0, at.1.1)) ats

shown_outputs : (c : List Statement) (v : Name → Bool)
    → length (map (shows None v) (at_outputs (enumerate_from 0 (outputs c)))) ≡ length (outputs c)
shown_outputs c v = length-map (at_outputs (enumerate_from 0 (outputs c))) (shows None v)
    ∙ (length-map (enumerate_from 0 (outputs c)) (λ at. (sink.Out at.0, at.1))
    ∙ length-enumerate_from 0 (outputs c))

shown_cells : (v : Name → Bool) (first : ℕ) (qds : List (Name × Name))
    → map (shows None v) (at_cells (enumerate_from first qds)) ≡ map (λ qd. v qd.1) qds
shown_cells v first [] = refl
shown_cells v first (qd ∷ qds) = ap (λ bits. v qd.1 ∷ bits) (shown_cells v (first + 1) qds)

-- the observers after the outputs show the bits that the cells capture
shown_by_cells : (c : List Statement) (v : Name → Bool)
    → drop (length (outputs c)) (map (shows None v) (observers c)) ≡ captured c v
shown_by_cells c v =
    let outs = map (shows None v) (at_outputs (enumerate_from 0 (outputs c))) in
    let rest = map (shows None v) (at_cells (enumerate_from 0 (cells c))) in
    ap (drop (length (outputs c))) (map-append (shows None v)
    (at_outputs (enumerate_from 0 (outputs c))) (at_cells (enumerate_from 0 (cells c))))
    ∙ (ap (λ n. drop n (outs ++ rest)) (sym (shown_outputs c v))
    ∙ (drop-append_seam outs rest ∙ shown_cells v 0 (cells c)))

-- the numbers of sources and observers
pub source_count : (c : List Statement) → length (sources c) ≡ length (inputs c) + length (cells c)
source_count c = length-append (inputs c) (map (λ cell. cell.0) (cells c))
    ∙ ap (λ n. length (inputs c) + n) (length-map (cells c) (λ cell. cell.0))

pub observer_count : (c : List Statement)
    → length (observers c) ≡ length (outputs c) + length (cells c)
observer_count c = length-append (at_outputs (enumerate_from 0 (outputs c)))
    (at_cells (enumerate_from 0 (cells c)))
    ∙ (ap (λ n. n + length (at_cells (enumerate_from 0 (cells c))))
    (length-map (enumerate_from 0 (outputs c)) (λ at. (sink.Out at.0, at.1))
    ∙ length-enumerate_from 0 (outputs c)) ∙ ap (λ n. length (outputs c) + n)
    (length-map (enumerate_from 0 (cells c)) (λ at. (sink.Data at.0, at.1.1))
    ∙ length-enumerate_from 0 (cells c)))

-- ---- the front of a list, and then the rest of another

pub joined_length : {X : Type 0} (old own : List X) (at from : ℕ) → at ≤ length old
    → length (take at old ++ drop from own) ≡ at + (length own - from)
joined_length old own at from le = length-append (take at old) (drop from own)
    ∙ (ap (λ n. n + length (drop from own)) (length-take-le at old le)
    ∙ ap (λ n. at + n) (length-drop from own))

pub joined_left : {X : Type 0} (old own : List X) (at from k : ℕ) (d : X) → at ≤ length old
    → k < at → get_or (take at old ++ drop from own) k d ≡ get_or old k d
joined_left old own at from k d le lt =
    let front = length-take-le at old le in
    get_or_append_left (take at old) (drop from own) d k (omega (arith, front, lt))
    ∙ get_or-take at old k d lt

pub joined_right : {X : Type 0} (old own : List X) (at from k : ℕ) (d : X) → at ≤ length old
    → get_or (take at old ++ drop from own) (at + k) d ≡ get_or own (from + k) d
joined_right old own at from k d le =
    ap (λ n. get_or (take at old ++ drop from own) (n + k) d) (sym (length-take-le at old le))
    ∙ (get_or-append-add (take at old) (drop from own) k d ∙ get_or-drop from own k d)

-- ---- the rows

pushed_before : {X : Type 0} (xs : List X) (x : X) (i : ℕ) (y : X) → slice_get xs i ≡ Some y
    → slice_get (xs ++ x ∷ []) i ≡ Some y
pushed_before [] x i y e = let bad : None ≡ Some y = e in cc
pushed_before (z ∷ xs) x zero y e = e
pushed_before (z ∷ xs) x (suc i) y e = pushed_before xs x i y e

pushed_last : {X : Type 0} (xs : List X) (x : X) → slice_get (xs ++ x ∷ []) (length xs) ≡ Some x
pushed_last [] x = refl
pushed_last (z ∷ xs) x = pushed_last xs x

pushed_at : {X : Type 0} (xs : List X) (x : X) (i : ℕ) → i ≡ length xs
    → slice_get (xs ++ x ∷ []) i ≡ Some x
pushed_at xs x i e = ap (slice_get (xs ++ x ∷ [])) e ∙ pushed_last xs x

-- with the two rows of one more test
pub rows_more : (tests shown : List Test) (held from n : ℕ) (pairs more : List Test)
    (first second : Test) → ArePairRows tests shown held from n pairs
    → first ≡ slice_index_or tests n []
    → second ≡ take held (slice_index_or tests n []) ++ drop from (slice_index_or shown n [])
    → more ≡ (pairs ++ first ∷ []) ++ second ∷ [] → ArePairRows tests shown held from (n + 1) more
rows_more tests shown held from n pairs more first second rows first_is second_is is = record {
  count = ap length is ∙ (length-append (pairs ++ first ∷ []) (second ∷ [])
      ∙ (ap (λ k. k + 1) (length-append pairs (first ∷ []))
      ∙ let count = rows.count in omega (arith, count)));
  first = λ t lt. ap (λ l. slice_get l (2 * t)) is ∙ pushed_before (pairs ++ first ∷ []) second
      (2 * t) (slice_index_or tests t []) (go_first t (cases_lt t n) lt);
  second = λ t lt. ap (λ l. slice_get l (2 * t + 1)) is ∙ go_second t (cases_lt t n) lt;
}
  where
    one_more : length (pairs ++ first ∷ []) ≡ 2 * n + 1
    one_more = length-append pairs (first ∷ []) ∙ ap (λ k. k + 1) rows.count

    go_first : (t : ℕ) → (t < n) ⊎ (n ≤ t) → t < n + 1
        → slice_get (pairs ++ first ∷ []) (2 * t) ≡ Some (slice_index_or tests t [])
    go_first t (inl low) lt = pushed_before pairs first (2 * t) (slice_index_or tests t [])
        (rows.first t low)
    go_first t (inr le) lt =
        let here : n ≡ t = omega (arith, le, lt) in
        let place : 2 * t ≡ length pairs = let count = rows.count in omega (arith, here, count) in
        pushed_at pairs first (2 * t) place
        ∙ ap Some (first_is ∙ ap (λ k. slice_index_or tests k []) here)

    go_second : (t : ℕ) → (t < n) ⊎ (n ≤ t) → t < n + 1
        → slice_get ((pairs ++ first ∷ []) ++ second ∷ []) (2 * t + 1)
        ≡ Some (take held (slice_index_or tests t []) ++ drop from (slice_index_or shown t []))
    go_second t (inl low) lt =
        let row = take held (slice_index_or tests t []) ++ drop from (slice_index_or shown t []) in
        pushed_before (pairs ++ first ∷ []) second (2 * t + 1) row
        (pushed_before pairs first (2 * t + 1) row (rows.second t low))
    go_second t (inr le) lt =
        let here : n ≡ t = omega (arith, le, lt) in
        let place : 2 * t + 1 ≡ length (pairs ++ first ∷ []) = omega (arith, here, one_more) in
        pushed_at (pairs ++ first ∷ []) second (2 * t + 1) place
        ∙ ap Some (second_is ∙ ap (λ k. take held (slice_index_or tests k [])
        ++ drop from (slice_index_or shown k [])) here)

index_is : {X : Type 0} (xs : List X) (i : ℕ) (x d : X) → slice_get xs i ≡ Some x
    → slice_index_or xs i d ≡ x
index_is [] i x d e = let bad : None ≡ Some x = e in cc
index_is (y ∷ xs) zero x d e = let same : Some y ≡ Some x = e in cc
index_is (y ∷ xs) (suc i) x d e = index_is xs i x d e

within : {X : Type 0} (xs : List X) (i : ℕ) (x : X) → slice_get xs i ≡ Some x → i < length xs
within [] i x e = let bad : None ≡ Some x = e in cc
within (y ∷ xs) zero x e = omega arith
within (y ∷ xs) (suc i) x e = let h = within xs i x e in omega (arith, h)

-- the rows are the pairs of launch on capture
pub are_launch_pairs : (c : List Statement) (tests pairs : List Test) (shown : TestList)
    (held from : ℕ) → held ≡ length (inputs c) → from ≡ length (outputs c)
    → AreResponses c tests shown → ArePairRows tests shown.tests held from (length tests) pairs
    → AreLaunchPairs c tests pairs
are_launch_pairs c tests pairs shown held from held_is from_is answers rows = record {
  count = rows.count;
  launch = λ t test at. rows.first t (within tests t test at)
      ∙ ap Some (index_is tests t test [] at);
  capture = λ t test v at solves.
      let row = index_is shown.tests t (map (shows None v) (observers c)) []
      (answers.each t test v at solves) in
      rows.second t (within tests t test at)
      ∙ ap Some (ap (λ x. take held x ++ drop from (slice_index_or shown.tests t []))
      (index_is tests t test [] at) ∙ (ap (λ x. take held test ++ drop from x) row
      ∙ (ap (λ k. take k test ++ drop from (map (shows None v) (observers c))) held_is
      ∙ (ap (λ k. take (length (inputs c)) test ++ drop k (map (shows None v) (observers c)))
      from_is ∙ ap (λ x. take (length (inputs c)) test ++ x) (shown_by_cells c v)))));
}
