-- Tests in steepest order, one after another.
use Rattle.std.proofs.Common.{◌≡◌, ◌+◌, ◌<◌, ◌≤◌, ◌∙◌, ◌++◌, ◌∷◌, [], ℕ, zero, suc, Bool, true}
use Rattle.std.proofs.Common.{false, List, ap, arith, cond, count_by, get_or, length, not}
use Rattle.std.{proofs.Common.{refl, subst, sym, take}, specs.List.list_any}
use Rattle.std.specs.Prelude.{◌&&◌, ◌||◌, All, None, Some, filter, slice_get}
use Rattle.std.proofs.lemmas.List.{take-append-le, Elements.All-filter}
use Rattle.std.proofs.lemmas.List.Filters.{length-filter_both, sum_by-filter_both}
use Rattle.std.proofs.lemmas.{List.Sums.{length-filter, sum_by-cons}, Option.slice_get_within}
use Rattle.std.proofs.Math.Seq.{take-append_seam}
use Rattle.patterns.specs.Least.{below, from_up}
use Rattle.compaction.specs.{News.IsBest, Steepest.{IsSteepest, news}}
use Rattle.region_runs.proofs.Public.{push_each}
pub use Rattle.std.proofs.lemmas.Bool.{false_from_ne_true as not_true}
use Rattle.flat_circuit.proofs.Public.{left_of as and_left}

-- ---- filters and counts

-- tests that agree keep alike, and count alike
kept_same : (p q : ℕ → Bool) (xs : List ℕ) → ((x : ℕ) → p x ≡ q x) → filter p xs ≡ filter q xs
kept_same p q [] same = refl
kept_same p q (x ∷ xs) same =
    let rest = kept_same p q xs same in
    ap (λ b. cond b (x ∷ filter p xs) (filter p xs)) (same x)
    ∙ ap (λ l. cond (q x) (x ∷ l) l) rest

counted_same : (p q : ℕ → Bool) (xs : List ℕ) → ((x : ℕ) → p x ≡ q x)
    → count_by p xs ≡ count_by q xs
counted_same p q xs same =
    sym (length-filter p xs) ∙ (ap length (kept_same p q xs same) ∙ length-filter q xs)

-- two filters are one
kept_twice : (p q : ℕ → Bool) (xs : List ℕ)
    → filter q (filter p xs) ≡ filter (λ x. q x && p x) xs
kept_twice p q [] = refl
kept_twice p q (x ∷ xs) = go (p x) (q x) refl (kept_twice p q xs)
  where
    both : List ℕ
    both = filter (λ x. q x && p x) xs

    go : (a b : Bool) → q x ≡ b → filter q (filter p xs) ≡ both
        → filter q (cond a (x ∷ filter p xs) (filter p xs)) ≡ cond (q x && a) (x ∷ both) both
    go true true f rest = rw (f) (ap (λ l. x ∷ l) rest)
    go true false f rest = rw (f) rest
    go false true f rest = rw (f) rest
    go false false f rest = rw (f) rest

counted_kept : (p q : ℕ → Bool) (xs : List ℕ)
    → count_by q (filter p xs) ≡ count_by (λ x. q x && p x) xs
counted_kept p q xs = sym (length-filter q (filter p xs))
    ∙ (ap length (kept_twice p q xs) ∙ length-filter (λ x. q x && p x) xs)

-- if none is counted, each fails the test
counted_none : (p : ℕ → Bool) (a n : ℕ) → count_by p (from_up a n) ≡ 0 → (j : ℕ) → j < n
    → p (a + j) ≡ false
counted_none p a zero none j lt = absurd (omega (arith, lt))
counted_none p a (suc n) none zero lt =
    let front = sum_by-cons (λ x. cond (p x) 1 0) a (from_up (a + 1) n) in
    ap p (let own : a + 0 ≡ a = omega arith in own) ∙ flag (p a) (omega (arith, none, front))
  where
    flag : (b : Bool) → cond {A = ℕ} b 1 0 ≡ 0 → b ≡ false
    flag true e = absurd (omega (arith, e))
    flag false e = refl
counted_none p a (suc n) none (suc j) lt =
    let front = sum_by-cons (λ x. cond (p x) 1 0) a (from_up (a + 1) n) in
    let next : a + suc j ≡ a + 1 + j = omega arith in
    ap p next ∙ counted_none p (a + 1) n (omega (arith, none, front)) j (omega (arith, lt))

-- ---- the classes that are left

-- the classes of a job, among those that some test detects, that no test of an order detects
abbrev pub left_after : (ℕ → Bool) → (ℕ → ℕ → Bool) → ℕ → List ℕ → List ℕ
left_after some detects classes order =
    filter (λ class. not (list_any (detects class) order)) (filter some (below classes))

-- they are below their number
pub left_within : (some : ℕ → Bool) (detects : ℕ → ℕ → Bool) (classes : ℕ) (order : List ℕ)
    → All (λ class. class < classes) (left_after some detects classes order)
left_within some detects classes order =
    All-filter (λ class. not (list_any (detects class) order)) (λ class. class < classes)
    (filter some (below classes)) (All-filter some (λ class. class < classes) (below classes)
    (λ k d lt. let x = up 0 classes k d lt in omega (arith, x)))
  where
    up : (a n k d : ℕ) → k < length (from_up a n) → get_or (from_up a n) k d < a + n
    up a zero k d lt = absurd (omega (arith, lt))
    up a (suc n) zero d lt = omega arith
    up a (suc n) (suc k) d lt =
        let x = up (a + 1) n k d (omega (arith, lt)) in omega (arith, x)

-- of the others no test detects any
abbrev pub AreSome : (ℕ → Bool) → (ℕ → ℕ → Bool) → Type 0
AreSome some detects = (class t : ℕ) → some class ≡ false → detects class t ≡ false

module _ (some : ℕ → Bool) (detects : ℕ → ℕ → Bool) (are : AreSome some detects) (classes : ℕ) where
  -- a test detects as many of them as it has news
  pub news_left : (order : List ℕ) (t : ℕ)
      → count_by (λ class. detects class t) (left_after some detects classes order)
      ≡ news detects classes order t
  news_left order t =
      counted_kept p q (filter some (below classes))
      ∙ (counted_kept some (λ class. q class && p class) (below classes)
      ∙ counted_same (λ class. (q class && p class) && some class) (λ class. q class && p class)
      (below classes) (λ class. go (q class) (p class) (some class) (are class t)))
    where
      p : ℕ → Bool
      p = λ class. not (list_any (detects class) order)

      q : ℕ → Bool
      q = λ class. detects class t

      go : (a b c : Bool) → (c ≡ false → a ≡ false) → ((a && b) && c) ≡ (a && b)
      go true true true h = refl
      go true true false h = let bad = h refl in sym bad
      go true false c h = refl
      go false b c h = refl

  -- one test more
  pub left_more : (order : List ℕ) (t : ℕ)
      → filter (λ class. not (detects class t)) (left_after some detects classes order)
      ≡ left_after some detects classes (order ++ t ∷ [])
  left_more order t =
      kept_twice (λ class. not (list_any (detects class) order)) (λ class. not (detects class t))
      (filter some (below classes))
      ∙ kept_same (λ class. not (detects class t) && not (list_any (detects class) order))
      (λ class. not (list_any (detects class) (order ++ t ∷ []))) (filter some (below classes))
      (λ class. neither (list_any (detects class) order) (detects class t)
      ∙ ap not (sym (any_more (detects class) order)))
    where
      any_more : (p : ℕ → Bool) (order : List ℕ)
          → list_any p (order ++ t ∷ []) ≡ (list_any p order || p t)
      any_more p [] = or_end (p t)
        where
          or_end : (b : Bool) → (b || false) ≡ b
          or_end true = refl
          or_end false = refl
      any_more p (x ∷ order) =
          ap (λ b. p x || b) (any_more p order) ∙ or_assoc (p x) (list_any p order) (p t)
        where
          or_assoc : (a b c : Bool) → (a || (b || c)) ≡ ((a || b) || c)
          or_assoc true b c = refl
          or_assoc false b c = refl

      neither : (a b : Bool) → (not b && not a) ≡ not (a || b)
      neither true true = refl
      neither true false = refl
      neither false true = refl
      neither false false = refl

-- a test splits classes into those that it detects and the others
pub split_counts : (detects : ℕ → ℕ → Bool) (left : List ℕ) (best t : ℕ)
    → count_by (λ class. detects class t) (filter (λ class. detects class best) left)
    + count_by (λ class. detects class t) (filter (λ class. not (detects class best)) left)
    ≡ count_by (λ class. detects class t) left
split_counts detects left best t =
    sum_by-filter_both (λ class. detects class best) (λ class. not (detects class best)) (λ _. refl)
    (λ class. cond (detects class t) 1 0) left

-- if it detects some, there are fewer others
pub fewer_left : (detects : ℕ → ℕ → Bool) (left : List ℕ) (best : ℕ)
    → 0 < count_by (λ class. detects class best) left
    → length (filter (λ class. not (detects class best)) left) < length left
fewer_left detects left best some =
    let both = length-filter_both (λ class. detects class best)
    (λ class. not (detects class best)) (λ _. refl) left in
    let own = length-filter (λ class. detects class best) left in
    omega (arith, both, own, some)

-- ---- an order so far

-- a property of each test of an order and of the tests before it
abbrev pub Each : (List ℕ → ℕ → Type 0) → List ℕ → Type 0
Each P order = (k s : ℕ) → slice_get order k ≡ Some s → P (take k order) s

each_more : (P : List ℕ → ℕ → Type 0) (order : List ℕ) (t : ℕ) → Each P order → P order t
    → Each P (order ++ t ∷ [])
each_more P order t each own = push_each (λ k. P (take k (order ++ t ∷ []))) order t
    (λ k s h. let low = slice_get_within order k s h in
    subst (λ xs. P xs s) (sym (take-append-le k order (t ∷ []) (omega (arith, low))))
    (each k s h)) (subst (λ xs. P xs t) (sym (take-append_seam order (t ∷ []))) own)

-- the next test of an order, after those before it
pub record IsNext (detects : ℕ → ℕ → Bool) (classes tests : ℕ) (before : List ℕ) (s : ℕ)
    : Type 0 where
  pub within : s < tests
  pub some : 0 < news detects classes before s
  pub most : (t : ℕ) → t < tests → news detects classes before t ≤ news detects classes before s
  pub lowest : (t : ℕ) → t < s → news detects classes before t < news detects classes before s

-- these are the numbers of classes of a list that the tests detect
pub record AreCounts (detects : ℕ → ℕ → Bool) (tests : ℕ) (left numbers : List ℕ) : Type 0 where
  pub count : length numbers ≡ tests
  pub each : (t : ℕ) → t < tests
      → get_or numbers t 0 ≡ count_by (λ class. detects class t) left

-- the tests of an order so far, each the next one, the classes that are left, and how many of them
-- each test detects
pub record IsSoFar (some : ℕ → Bool) (detects : ℕ → ℕ → Bool) (classes tests : ℕ)
    (order left numbers : List ℕ) : Type 0 where
  pub others : left ≡ left_after some detects classes order
  pub are : AreCounts detects tests left numbers
  pub each : Each (IsNext detects classes tests) order

module _ (some : ℕ → Bool) (detects : ℕ → ℕ → Bool) (are : AreSome some detects)
    (classes tests : ℕ) where
  pub so_far_none : (left numbers : List ℕ) → left ≡ filter some (below classes)
      → AreCounts detects tests left numbers
      → IsSoFar some detects classes tests [] left numbers
  so_far_none left numbers is counts = record {
    others = is ∙ sym (all (filter some (below classes)));
    are = counts;
    each = λ k s e. none k s e;
  }
    where
      all : (xs : List ℕ) → filter (λ class. true) xs ≡ xs
      all [] = refl
      all (x ∷ xs) = ap (λ l. x ∷ l) (all xs)

      none : (k s : ℕ) → slice_get [] k ≡ Some s → IsNext detects classes tests (take k []) s
      none k s e = let bad : None ≡ Some s = e in absurd (cc)

  module _ (order left numbers : List ℕ)
      (so : IsSoFar some detects classes tests order left numbers) where
    -- the number of a test is that of its news
    told : (t : ℕ) → t < tests → get_or numbers t 0 ≡ news detects classes order t
    told t lt = so.are.each t lt
        ∙ (ap (count_by (λ class. detects class t)) so.others
        ∙ news_left some detects are classes order t)

    pub so_far_more : (best : ℕ) (others counts : List ℕ) → IsBest numbers best
        → others ≡ filter (λ class. not (detects class best)) left
        → AreCounts detects tests others counts
        → IsSoFar some detects classes tests (order ++ best ∷ []) others counts
    so_far_more best others counts of is so_many = record {
      others = is ∙ (ap (filter (λ class. not (detects class best))) so.others
          ∙ left_more some detects are classes order best);
      are = so_many;
      each = each_more (IsNext detects classes tests) order best so.each (record {
        within = low;
        some = let h = of.some in let e = told best low in omega (arith, h, e);
        most = λ t lt. let h = of.most t (omega (arith, lt, so.are.count)) in
            let e = told best low in let f = told t lt in omega (arith, h, e, f);
        lowest = λ t lt. let h = of.lowest t lt in let e = told best low in
            let f = told t (omega (arith, lt, low)) in omega (arith, h, e, f);
      });
    }
      where
        low : best < tests
        low = let h = of.within in omega (arith, h, so.are.count)

    -- an order after which no test detects any of the classes that are left
    pub steepest : ((t : ℕ) → t < length numbers → get_or numbers t 0 ≡ 0)
        → IsSteepest detects classes tests order
    steepest none = record {
      within = λ k s e. (so.each k s e).within;
      some = λ k s e. (so.each k s e).some;
      most = λ k s t e lt. (so.each k s e).most t lt;
      lowest = λ k s t e lt. (so.each k s e).lowest t lt;
      all = λ class t lt low d. covers (detects class t) (list_any (detects class) order)
          (let own : 0 + class ≡ class = omega arith in
          ap (λ k. detects k t && not (list_any (detects k) order)) (sym own)
          ∙ counted_none (λ k. detects k t && not (list_any (detects k) order)) 0 classes
          (sym (told t low) ∙ none t (omega (arith, low, so.are.count))) class lt) d;
    }
      where
        covers : (a b : Bool) → (a && not b) ≡ false → a ≡ true → b ≡ true
        covers true true e h = refl
        covers true false e h = let bad : true ≡ false = e in cc
        covers false b e h = let bad : false ≡ true = h in cc

-- ---- a test with news

-- if some are counted, there is one
counted_some : (p : ℕ → Bool) (a n : ℕ) → 0 < count_by p (from_up a n)
    → (j : ℕ) × (j < n) × (p (a + j) ≡ true)
counted_some p a zero some = absurd (omega (arith, some))
counted_some p a (suc n) some = go (p a) refl (counted_some p (a + 1) n)
  where
    front : count_by p (from_up a (suc n)) ≡ cond (p a) 1 0 + count_by p (from_up (a + 1) n)
    front = sum_by-cons (λ x. cond (p x) 1 0) a (from_up (a + 1) n)

    go : (b : Bool) → p a ≡ b
        → (0 < count_by p (from_up (a + 1) n) → (j : ℕ) × (j < n) × (p (a + 1 + j) ≡ true))
        → (j : ℕ) × (j < suc n) × (p (a + j) ≡ true)
    go true e later = (0, omega arith, ap p (let own : a + 0 ≡ a = omega arith in own) ∙ e)
    go false e later =
        let number : Bool → ℕ = λ b. cond b 1 0 in
        let here : number (p a) ≡ 0 = ap number e in
        let rest : (j : ℕ) × (j < n) × (p (a + 1 + j) ≡ true) =
        later (omega (arith, some, front, here)) in
        let next : a + suc rest.0 ≡ a + 1 + rest.0 = omega arith in
        let low = rest.1 in
        (suc rest.0, omega (arith, low), ap p next ∙ rest.2)

zero_up : (j : ℕ) → 0 + j ≡ j
zero_up j = omega arith

and_not : (a b : Bool) → (a && not b) ≡ true → b ≡ false
and_not true true e = let bad : false ≡ true = e in cc
and_not true false e = refl
and_not false b e = let bad : false ≡ true = e in cc

-- the class that a test with news detects, and none before it
pub new_class : (detects : ℕ → ℕ → Bool) (classes : ℕ) (before : List ℕ) (t : ℕ)
    → 0 < news detects classes before t
    → (class : ℕ) × (class < classes) × (detects class t ≡ true)
    × (list_any (detects class) before ≡ false)
new_class detects classes before t some =
    let p : ℕ → Bool = λ k. detects k t && not (list_any (detects k) before) in
    let class = counted_some p 0 classes some in
    let on : (detects class.0 t && not (list_any (detects class.0) before)) ≡ true =
    ap p (sym (zero_up class.0)) ∙ class.2 in (
      class.0,
      class.1,
      and_left (detects class.0 t) (not (list_any (detects class.0) before)) on,
      and_not (detects class.0 t) (list_any (detects class.0) before) on,
    )
