-- The elements at marked places.
use Rattle.std.proofs.Common.{◌≡◌, ◌<◌, ◌≤◌, ◌+◌, ◌∙◌, ℕ, zero, suc, Bool, true, false, List, []}
use Rattle.std.proofs.Common.{◌∷◌, ◌++◌, length, take, ap, refl, sym, arith, add-one, get_or, inl}
use Rattle.std.proofs.{Common.{inr, ◌⊎◌, cond, count_by}, lemmas.List.Sums.sum_by-cons}
use Rattle.std.{proofs.lemmas.Bool.cases_lt, specs.Prelude.{Some, None, slice_get}}
use Rattle.compaction.specs.Compaction.{IsSublist, at_marks}

-- the number of marked places
abbrev pub ones : List Bool → ℕ
ones [] = 0
ones (true ∷ marks) = suc (ones marks)
ones (false ∷ marks) = ones marks

-- std counts them so too
pub ones_counted : (marks : List Bool) → count_by (λ mark. mark) marks ≡ ones marks
ones_counted [] = refl
ones_counted (true ∷ marks) =
    let more = sum_by-cons (λ mark. cond mark 1 0) true marks in
    let rest = ones_counted marks in omega (arith, more, rest)
ones_counted (false ∷ marks) =
    let more = sum_by-cons (λ mark. cond mark 1 0) false marks in
    let rest = ones_counted marks in omega (arith, more, rest)

pub marked_at : {X : Type 0} (marks : List Bool) (xs : List X) (t : ℕ) (x : X)
    → slice_get marks t ≡ Some true → slice_get xs t ≡ Some x
    → slice_get (at_marks marks xs) (ones (take t marks)) ≡ Some x
marked_at [] xs t x m e = let bad : None ≡ Some true = m in cc
marked_at (b ∷ marks) [] t x m e = let bad : None ≡ Some x = e in cc
marked_at (true ∷ marks) (y ∷ xs) zero x m e = e
marked_at (false ∷ marks) (y ∷ xs) zero x m e = let bad : Some false ≡ Some true = m in cc
marked_at (true ∷ marks) (y ∷ xs) (suc t) x m e = marked_at marks xs t x m e
marked_at (false ∷ marks) (y ∷ xs) (suc t) x m e = marked_at marks xs t x m e

-- the place from which an element at a marked place comes
pub record ComesFrom {X : Type 0} (marks : List Bool) (xs : List X) (k : ℕ) (x : X) : Type 0 where
  pub place : ℕ
  pub mark : slice_get marks place ≡ Some true
  pub at : slice_get xs place ≡ Some x
  pub before : ones (take place marks) ≡ k

pub comes_from : {X : Type 0} (marks : List Bool) (xs : List X) (k : ℕ) (x : X)
    → slice_get (at_marks marks xs) k ≡ Some x → ComesFrom marks xs k x
comes_from [] xs k x e = let bad : None ≡ Some x = e in cc
comes_from (true ∷ marks) [] k x e = let bad : None ≡ Some x = e in cc
comes_from (false ∷ marks) [] k x e = let bad : None ≡ Some x = e in cc
comes_from (true ∷ marks) (y ∷ xs) zero x e =
    record { place = 0; mark = refl; at = e; before = refl }
comes_from (true ∷ marks) (y ∷ xs) (suc k) x e = let h = comes_from marks xs k x e in
    record { place = suc h.place; mark = h.mark; at = h.at; before = ap suc h.before }
comes_from (false ∷ marks) (y ∷ xs) k x e = let h = comes_from marks xs k x e in
    record { place = suc h.place; mark = h.mark; at = h.at; before = h.before }

-- the number of marks before a place rises
pub ones_rise : (marks : List Bool) (s t : ℕ) → s ≤ t → ones (take s marks) ≤ ones (take t marks)
ones_rise marks zero t le = omega arith
ones_rise marks (suc s) zero le = absurd (omega (arith, le))
ones_rise [] (suc s) (suc t) le = omega arith
ones_rise (true ∷ marks) (suc s) (suc t) le = let h = ones_rise marks s t (omega (arith, le)) in
    omega (arith, h)
ones_rise (false ∷ marks) (suc s) (suc t) le = ones_rise marks s t (omega (arith, le))

pub earlier_place : (marks : List Bool) (s t i j : ℕ) → ones (take s marks) ≡ i
    → ones (take t marks) ≡ j → i < j → s < t
earlier_place marks s t i j ei ej lt = go (cases_lt s t)
  where
    go : (s < t) ⊎ (t ≤ s) → s < t
    go (inl h) = h
    go (inr h) = absurd (let le = ones_rise marks t s h in omega (arith, le, ei, ej, lt))

pub ones_next : (marks : List Bool) (t : ℕ) → slice_get marks t ≡ Some true
    → ones (take (suc t) marks) ≡ suc (ones (take t marks))
ones_next [] t m = let bad : None ≡ Some true = m in cc
ones_next (true ∷ marks) zero m = refl
ones_next (false ∷ marks) zero m = let bad : Some false ≡ Some true = m in cc
ones_next (true ∷ marks) (suc t) m = ap suc (ones_next marks t m)
ones_next (false ∷ marks) (suc t) m = ones_next marks t m

pub ones_stay : (marks : List Bool) (t : ℕ) → get_or marks t false ≡ false
    → ones (take (suc t) marks) ≡ ones (take t marks)
ones_stay [] zero e = refl
ones_stay [] (suc t) e = refl
ones_stay (true ∷ marks) zero e = let bad : true ≡ false = e in cc
ones_stay (false ∷ marks) zero e = refl
ones_stay (true ∷ marks) (suc t) e = ap suc (ones_stay marks t e)
ones_stay (false ∷ marks) (suc t) e = ones_stay marks t e

pub marked_few : {X : Type 0} (marks : List Bool) (xs : List X)
    → length (at_marks marks xs) ≤ length xs
marked_few [] xs = omega arith
marked_few (true ∷ marks) [] = omega arith
marked_few (false ∷ marks) [] = omega arith
marked_few (true ∷ marks) (x ∷ xs) = let h = marked_few marks xs in omega (arith, h)
marked_few (false ∷ marks) (x ∷ xs) = let h = marked_few marks xs in omega (arith, h)

-- some elements of a list are no more than all
pub sublist_few : {X : Type 0} (some xs : List X) → IsSublist some xs → length some ≤ length xs
sublist_few some xs is =
    let few = marked_few is.0 xs in let same = ap length is.2 in omega (arith, few, same)

pub marked_below : {X : Type 0} (marks : List Bool) (xs : List X) (t : ℕ)
    → length (at_marks (take t marks) xs) ≤ t
marked_below marks xs zero = omega arith
marked_below [] xs (suc t) = omega arith
marked_below (true ∷ marks) [] (suc t) = omega arith
marked_below (false ∷ marks) [] (suc t) = omega arith
marked_below (true ∷ marks) (x ∷ xs) (suc t) = let h = marked_below marks xs t in omega (arith, h)
marked_below (false ∷ marks) (x ∷ xs) (suc t) = let h = marked_below marks xs t in omega (arith, h)

-- if there are no elements, none is marked
no_elements : {X : Type 0} (marks : List Bool) → at_marks {X = X} marks [] ≡ []
no_elements [] = refl
no_elements (true ∷ marks) = refl
no_elements (false ∷ marks) = refl

-- one place more
one_next : {X : Type 0} (marks : List Bool) (xs : List X) (t : ℕ) (d : X)
    → t < length marks → t < length xs → get_or marks t false ≡ true
    → at_marks (take (suc t) marks) xs ≡ at_marks (take t marks) xs ++ get_or xs t d ∷ []
one_next [] xs t d m lt e = absurd (omega (arith, m))
one_next (b ∷ marks) [] t d m lt e = absurd (omega (arith, lt))
one_next (true ∷ marks) (x ∷ xs) zero d m lt e = refl
one_next (false ∷ marks) (x ∷ xs) zero d m lt e = let bad : false ≡ true = e in cc
one_next (true ∷ marks) (x ∷ xs) (suc t) d m lt e =
    ap (λ ys. x ∷ ys) (one_next marks xs t d (omega (arith, m)) (omega (arith, lt)) e)
one_next (false ∷ marks) (x ∷ xs) (suc t) d m lt e =
    one_next marks xs t d (omega (arith, m)) (omega (arith, lt)) e

none_next : {X : Type 0} (marks : List Bool) (xs : List X) (t : ℕ) → t < length marks
    → get_or marks t false ≡ false → at_marks (take (suc t) marks) xs ≡ at_marks (take t marks) xs
none_next [] xs t m e = absurd (omega (arith, m))
none_next (b ∷ marks) [] t m e = no_elements (take (suc t) (b ∷ marks))
    ∙ sym (no_elements (take t (b ∷ marks)))
none_next (true ∷ marks) (x ∷ xs) zero m e = let bad : true ≡ false = e in cc
none_next (false ∷ marks) (x ∷ xs) zero m e = refl
none_next (true ∷ marks) (x ∷ xs) (suc t) m e =
    ap (λ ys. x ∷ ys) (none_next marks xs t (omega (arith, m)) e)
none_next (false ∷ marks) (x ∷ xs) (suc t) m e = none_next marks xs t (omega (arith, m)) e

pub marked_one : {X : Type 0} (marks : List Bool) (xs : List X) (t : ℕ) (d : X)
    → t < length marks → t < length xs → get_or marks t false ≡ true
    → at_marks (take (t + 1) marks) xs ≡ at_marks (take t marks) xs ++ get_or xs t d ∷ []
marked_one marks xs t d m lt e = ap (λ n. at_marks (take n marks) xs) (add-one t)
    ∙ one_next marks xs t d m lt e

pub marked_none : {X : Type 0} (marks : List Bool) (xs : List X) (t : ℕ) → t < length marks
    → get_or marks t false ≡ false → at_marks (take (t + 1) marks) xs ≡ at_marks (take t marks) xs
marked_none marks xs t m e = ap (λ n. at_marks (take n marks) xs) (add-one t)
    ∙ none_next marks xs t m e

-- ---- some of some

-- the marks of the elements that remain after one list of marks and then another
abbrev pub both_marks : List Bool → List Bool → List Bool
both_marks [] inner = []
both_marks (false ∷ marks) inner = false ∷ both_marks marks inner
both_marks (true ∷ marks) [] = false ∷ both_marks marks []
both_marks (true ∷ marks) (mark ∷ inner) = mark ∷ both_marks marks inner

-- they are among the marks
pub both_marked : (marks inner : List Bool) (t : ℕ)
    → slice_get (both_marks marks inner) t ≡ Some true → slice_get marks t ≡ Some true
both_marked [] inner t e = let bad : None ≡ Some true = e in cc
both_marked (false ∷ marks) inner zero e = let bad : Some false ≡ Some true = e in cc
both_marked (false ∷ marks) inner (suc t) e = both_marked marks inner t e
both_marked (true ∷ marks) [] zero e = refl
both_marked (true ∷ marks) [] (suc t) e = both_marked marks [] t e
both_marked (true ∷ marks) (mark ∷ inner) zero e = refl
both_marked (true ∷ marks) (mark ∷ inner) (suc t) e = both_marked marks inner t e

-- and each of the elements that remain is marked
pub both_inner : (marks inner : List Bool) (t : ℕ)
    → slice_get (both_marks marks inner) t ≡ Some true
    → slice_get inner (ones (take t marks)) ≡ Some true
both_inner [] inner t e = let bad : None ≡ Some true = e in absurd (cc)
both_inner (false ∷ marks) inner zero e = let bad : Some false ≡ Some true = e in absurd (cc)
both_inner (false ∷ marks) inner (suc t) e = both_inner marks inner t e
both_inner (true ∷ marks) [] zero e = let bad : Some false ≡ Some true = e in absurd (cc)
both_inner (true ∷ marks) [] (suc t) e =
    let none : None ≡ Some true = both_inner marks [] t e in absurd (cc)
both_inner (true ∷ marks) (mark ∷ inner) zero e = e
both_inner (true ∷ marks) (mark ∷ inner) (suc t) e = both_inner marks inner t e

pub both_counted : (marks inner : List Bool) → length (both_marks marks inner) ≡ length marks
both_counted [] inner = refl
both_counted (false ∷ marks) inner = ap suc (both_counted marks inner)
both_counted (true ∷ marks) [] = ap suc (both_counted marks [])
both_counted (true ∷ marks) (mark ∷ inner) = ap suc (both_counted marks inner)

pub marked_twice : {X : Type 0} (marks inner : List Bool) (xs : List X)
    → at_marks inner (at_marks marks xs) ≡ at_marks (both_marks marks inner) xs
marked_twice [] inner xs = no_elements inner
marked_twice (false ∷ marks) inner [] = no_elements inner
marked_twice (false ∷ marks) inner (x ∷ xs) = marked_twice marks inner xs
marked_twice (true ∷ marks) [] [] = refl
marked_twice (true ∷ marks) [] (x ∷ xs) = marked_twice marks [] xs
marked_twice (true ∷ marks) (true ∷ inner) [] = refl
marked_twice (true ∷ marks) (false ∷ inner) [] = refl
marked_twice (true ∷ marks) (true ∷ inner) (x ∷ xs) =
    ap (λ ys. x ∷ ys) (marked_twice marks inner xs)
marked_twice (true ∷ marks) (false ∷ inner) (x ∷ xs) = marked_twice marks inner xs

-- as many elements of two lists of one length are marked
pub as_many_marked : {X Y : Type 0} (marks : List Bool) (xs : List X) (ys : List Y)
    → length xs ≡ length ys → length (at_marks marks xs) ≡ length (at_marks marks ys)
as_many_marked [] xs ys e = refl
as_many_marked (true ∷ marks) [] [] e = refl
as_many_marked (false ∷ marks) [] [] e = refl
as_many_marked (mark ∷ marks) [] (y ∷ ys) e = absurd (omega (arith, e))
as_many_marked (mark ∷ marks) (x ∷ xs) [] e = absurd (omega (arith, e))
as_many_marked (true ∷ marks) (x ∷ xs) (y ∷ ys) e =
    ap suc (as_many_marked marks xs ys (omega (arith, e)))
as_many_marked (false ∷ marks) (x ∷ xs) (y ∷ ys) e = as_many_marked marks xs ys (omega (arith, e))
