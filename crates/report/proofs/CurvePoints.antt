-- The curve of a run, test by test.
use Rattle.std.proofs.Common.{◌≡◌, ◌<◌, ◌≤◌, ◌+◌, ◌∙◌, ℕ, zero, suc, Bool, true, false, List, []}
use Rattle.std.proofs.Common.{◌∷◌, ◌++◌, length, map, take, ap, sym, refl, arith, add-one}
use Rattle.std.{proofs.Common.append-nil, proofs.Math.Bool.cond, specs.List.list_any}
use Rattle.std.specs.Prelude.{◌||◌, Option, Some, None, count_by, filter, nat_lt, slice_get}
use Rattle.std.proofs.lemmas.{Bool.Decides.nat_tests, List.map-append, List.Elements.filter-append}
use Rattle.std.proofs.lemmas.List.Sums.{count_by-le-length, sum_by-cons, sum_by_more}
use Rattle.std.proofs.{lemmas.Option.get_or_from_slice_get, Math.Seq.take-append_seam}
use Rattle.list_lemmas.proofs.Places.{place_within}
use Rattle.patterns.specs.Least.{below, from_up}
use Rattle.compaction.specs.Compaction.{finds, is_first}
use Rattle.report.specs.Curve.{counts_at, curve, found_by, is_found_by, news_at, point_at}

-- whether a first test is below a number
abbrev pub is_below : ℕ → Option ℕ → Bool
is_below t None = false
is_below t (Some first) = nat_lt first t

abbrev pub found_below : List (Option ℕ) → ℕ → ℕ
found_below firsts t = count_by (is_below t) firsts

count_cons : (p : Option ℕ → Bool) (x : Option ℕ) (xs : List (Option ℕ))
    → count_by p (x ∷ xs) ≡ cond (p x) 1 0 + count_by p xs
count_cons p x xs = sum_by-cons (λ y. cond (p y) 1 0) x xs

-- one fault more, at its first test only
one_more : (t : ℕ) (x : Option ℕ) → cond {A = ℕ} (is_below (t + 1) x) 1 0 ≡ cond (is_below t x) 1 0
    + cond (is_first t x) 1 0
one_more t None = refl
one_more t (Some first) = grind (arith, nat_tests)

one_by : (t : ℕ) (x : Option ℕ) → cond {A = ℕ} (is_found_by t x) 1 0 ≡ cond (is_below (t + 1) x) 1 0
one_by t None = refl
one_by t (Some first) = grind (arith, nat_tests)

none_below : (x : Option ℕ) → cond {A = ℕ} (is_below 0 x) 1 0 ≡ 0
none_below None = refl
none_below (Some first) = grind (arith, nat_tests)

pub below_more : (firsts : List (Option ℕ)) (t : ℕ)
    → found_below firsts (t + 1) ≡ found_below firsts t + news_at firsts t
below_more [] t = refl
below_more (x ∷ xs) t = omega (
  arith,
  below_more xs t,
  one_more t x,
  count_cons (is_below (t + 1)) x xs,
  count_cons (is_below t) x xs,
  count_cons (is_first t) x xs,
)

pub found_by_is : (firsts : List (Option ℕ)) (t : ℕ)
    → found_by firsts t ≡ found_below firsts (t + 1)
found_by_is [] t = refl
found_by_is (x ∷ xs) t = omega (
  arith,
  found_by_is xs t,
  one_by t x,
  count_cons (is_found_by t) x xs,
  count_cons (is_below (t + 1)) x xs,
)

pub below_none : (firsts : List (Option ℕ)) → found_below firsts 0 ≡ 0
below_none [] = refl
below_none (x ∷ xs) = omega (arith, below_none xs, none_below x, count_cons (is_below 0) x xs)

pub found_few : (firsts : List (Option ℕ)) (t : ℕ) → found_below firsts t ≤ length firsts
found_few firsts t = count_by-le-length (is_below t) firsts

-- a test is the first of some fault if it counts one
pub finds_some : (p : Option ℕ → Bool) (xs : List (Option ℕ)) → 0 < count_by p xs
    → list_any p xs ≡ true
finds_some p [] h = absurd (omega (arith, h))
finds_some p (x ∷ xs) h = go (p x) refl (finds_some p xs)
  where
    go : (b : Bool) → p x ≡ b → (0 < count_by p xs → list_any p xs ≡ true)
        → (p x || list_any p xs) ≡ true
    go true e later = rw (e) refl
    go false e later =
        let none : cond {A = ℕ} (p x) 1 0 ≡ 0 = rw (e) refl in
        rw (e) (later (omega (arith, h, none, count_cons p x xs)))

pub finds_none : (p : Option ℕ → Bool) (xs : List (Option ℕ)) → count_by p xs ≤ 0
    → list_any p xs ≡ false
finds_none p [] h = refl
finds_none p (x ∷ xs) h = go (p x) refl (finds_none p xs)
  where
    go : (b : Bool) → p x ≡ b → (count_by p xs ≤ 0 → list_any p xs ≡ false)
        → (p x || list_any p xs) ≡ false
    go true e later =
        let one : cond {A = ℕ} (p x) 1 0 ≡ 1 = rw (e) refl in
        absurd (omega (arith, h, one, count_cons p x xs))
    go false e later =
        let none : cond {A = ℕ} (p x) 1 0 ≡ 0 = rw (e) refl in
        rw (e) (later (omega (arith, h, none, count_cons p x xs)))

from_up_more : (a n : ℕ) → from_up a (suc n) ≡ from_up a n ++ (a + n) ∷ []
from_up_more a zero = ap (λ k. k ∷ []) (omega arith)
from_up_more a (suc n) = ap (λ l. a ∷ l) (from_up_more (a + 1) n
    ∙ ap (λ k. from_up (a + 1) n ++ k ∷ []) (omega arith))

pub tests_more : (t : ℕ) → below (t + 1) ≡ below t ++ t ∷ []
tests_more t = ap (from_up 0) (add-one t)
    ∙ (from_up_more 0 t ∙ ap (λ k. from_up 0 t ++ k ∷ []) (omega arith))

-- the points of one test more
curve_last : (firsts : List (Option ℕ)) (t : ℕ) → curve (t + 1) firsts ≡ curve t firsts
    ++ map (point_at firsts) (filter (finds firsts) (t ∷ []))
curve_last firsts t = ap (λ l. map (point_at firsts) (filter (finds firsts) l)) (tests_more t)
    ∙ (ap (λ l. map (point_at firsts) l) (filter-append (finds firsts) (below t) (t ∷ []))
    ∙ map-append (point_at firsts) (filter (finds firsts) (below t))
    (filter (finds firsts) (t ∷ [])))

pub curve_point : (firsts : List (Option ℕ)) (t : ℕ) → finds firsts t ≡ true
    → curve (t + 1) firsts ≡ curve t firsts ++ point_at firsts t ∷ []
curve_point firsts t e = curve_last firsts t ∙ rw (e) refl

pub curve_same : (firsts : List (Option ℕ)) (t : ℕ) → finds firsts t ≡ false
    → curve (t + 1) firsts ≡ curve t firsts
curve_same firsts t e = curve_last firsts t ∙ rw (e, append-nil) refl

-- a point by its numbers
pub point_is : (firsts : List (Option ℕ)) (t gained detected : ℕ) → gained ≡ news_at firsts t
    → detected ≡ found_below firsts (t + 1)
    → point_at firsts t ≡ record { test = t; gained = gained; detected = detected }
point_is firsts t gained detected g e =
    ap (λ n. record { test = t; gained = news_at firsts t; detected = n }) (found_by_is firsts t
    ∙ sym e) ∙ ap (λ n. record { test = t; gained = n; detected = detected }) (sym g)

-- the step of the count of a test
pub news_more : (firsts : List (Option ℕ)) (t i : ℕ) (first : Option ℕ)
    → slice_get firsts i ≡ Some first → news_at (take (i + 1) firsts) t ≡ news_at (take i firsts) t
    + counts_at t first
news_more firsts t i first at =
    let lt : i < length firsts = place_within firsts i first at in
    sum_by_more (λ x. cond (is_first t x) 1 0) firsts i first lt
    ∙ ap (λ x. news_at (take i firsts) t + counts_at t x)
    (get_or_from_slice_get firsts i first first at)

-- the vector after its slice was overwritten
pub written_over : (n : ℕ) (new old : List ℕ) → n ≡ length new → take n (new ++ old) ≡ new
written_over n new old e = ap (λ k. take k (new ++ old)) e ∙ take-append_seam new old
