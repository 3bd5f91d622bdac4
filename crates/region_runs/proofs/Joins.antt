-- What is kept of classes, joined with what was found of a window.
use Rattle.std.proofs.Common.{◌≡◌, ◌≢◌, ◌⊎◌, ◌<◌, ◌≤◌, ◌+◌, ◌-◌, ◌++◌, ◌∙◌, inl, inr, ℕ, zero, suc}
use Rattle.std.proofs.Common.{List, [], ◌∷◌, All, Bool, Option, Some, None, true, false, refl, sym}
use Rattle.std.proofs.Common.{ap, subst, arith, cond, get_or, length}
use Rattle.std.specs.Prelude.{count_by, is_some, slice_get, take}
use Rattle.std.proofs.lemmas.Bool.{cases_eq, cases_lt, false≢true}
use Rattle.std.proofs.lemmas.List.Sums.{count_by-le-length, count_by_more_no, count_by_more_yes}
use Rattle.std.proofs.lemmas.List.Sums.{sum_by-cons, sum_by-take-le}
use Rattle.std.proofs.lemmas.Option.{get_or_from_slice_get, slice_get-get_or, slice_get_within}
use Rattle.region_sim.specs.Goals.{IsFirstHit}
use Rattle.region_runs.specs.{Joins.{HasJoinedAt, IsJoinedAt, Joins}, WindowLedgers.open_classes}

-- ---- the first test
pub none_of : (first : Option ℕ) → is_some first ≡ false → first ≡ None
none_of (Some t) is = absurd (false≢true (sym is))
none_of None is = refl

-- and without one it is that of the window, if there is one
pub first_later : (start t : ℕ) (new : Option ℕ) → (t + start ≤ 65536 → new ≡ Some (t + start))
    → Joins IsFirstHit start None (Some t) new
first_later start t new is = λ hits own low mid high le up few same none found.
    let at = found.0 in
    let below = found.1 in
    let turn : start + t ≡ t + start = omega arith in
    subst (IsFirstHit hits low (start + high)) (sym (is (omega (arith, few, below)))) (
      omega (arith, le, at),
      omega (arith, below),
      ap hits (sym turn) ∙ sym (same t at below) ∙ found.2,
      λ earlier from before. (elim (cases_lt earlier (start + mid)) [
        | inl lt ↦ none earlier from lt
        | inr ge ↦ (let there : start + (earlier - start) ≡ earlier = omega (arith, ge) in
            ap hits (sym there)
            ∙ sym (same (earlier - start) (omega (arith, ge)) (omega (arith, ge, before, below)))
            ∙ found.3 (earlier - start) (omega (arith, ge)) (omega (arith, ge, before)))
      ]),
    )

pub first_never : (start : ℕ) → Joins IsFirstHit start None None None
first_never start = λ hits own low mid high le up few same none found.
    λ t from below. elim (cases_lt t (start + mid)) [
      | inl lt ↦ none t from lt
      | inr ge ↦ (let there : start + (t - start) ≡ t = omega (arith, ge) in
          ap hits (sym there)
          ∙ sym (same (t - start) (omega (arith, ge)) (omega (arith, ge, below)))
          ∙ found (t - start) (omega (arith, ge)) (omega (arith, ge, below)))
    ]

-- ---- the classes that more tests can change
pub open_yes : {K : Type 0} (wants : K → Bool) (x : ℕ) (y : K) (classes : List ℕ) (kept : List K)
    → wants y ≡ true
    → open_classes wants (x ∷ classes) (y ∷ kept) ≡ x ∷ open_classes wants classes kept
open_yes {K} wants x y classes kept e = rw (e) refl

pub open_no : {K : Type 0} (wants : K → Bool) (x : ℕ) (y : K) (classes : List ℕ) (kept : List K)
    → wants y ≡ false
    → open_classes wants (x ∷ classes) (y ∷ kept) ≡ open_classes wants classes kept
open_no {K} wants x y classes kept e = rw (e) refl

count_yes : {K : Type 0} (wants : K → Bool) (y : K) (kept : List K) → wants y ≡ true
    → count_by wants (y ∷ kept) ≡ suc (count_by wants kept)
count_yes {K} wants y kept e =
    let front = sum_by-cons (λ x. cond (wants x) 1 0) y kept in
    let number : Bool → ℕ = λ b. cond b 1 0 in
    let one : number (wants y) ≡ 1 = ap number e in
    omega (arith, front, one)

count_no : {K : Type 0} (wants : K → Bool) (y : K) (kept : List K) → wants y ≡ false
    → count_by wants (y ∷ kept) ≡ count_by wants kept
count_no {K} wants y kept e =
    let front = sum_by-cons (λ x. cond (wants x) 1 0) y kept in
    let number : Bool → ℕ = λ b. cond b 1 0 in
    let none : number (wants y) ≡ 0 = ap number e in
    omega (arith, front, none)

-- as many as there are values that can be changed
open_counted : {K : Type 0} (wants : K → Bool) (x : ℕ) (y : K) (classes : List ℕ) (kept : List K)
    (v : Bool) → wants y ≡ v → length (open_classes wants classes kept) ≡ count_by wants kept
    → length (open_classes wants (x ∷ classes) (y ∷ kept)) ≡ count_by wants (y ∷ kept)
open_counted {K} wants x y classes kept true e rest =
    ap (λ (l : List ℕ). length l) (open_yes wants x y classes kept e)
    ∙ (ap suc rest ∙ sym (count_yes wants y kept e))
open_counted {K} wants x y classes kept false e rest =
    ap (λ (l : List ℕ). length l) (open_no wants x y classes kept e)
    ∙ (rest ∙ sym (count_no wants y kept e))

pub open_count : {K : Type 0} (wants : K → Bool) (classes : List ℕ) (kept : List K)
    → length kept ≡ length classes → length (open_classes wants classes kept) ≡ count_by wants kept
open_count {K} wants [] [] same = refl
open_count {K} wants [] (y ∷ kept) same = absurd (omega (arith, same))
open_count {K} wants (x ∷ classes) [] same = absurd (omega (arith, same))
open_count {K} wants (x ∷ classes) (y ∷ kept) same =
    open_counted wants x y classes kept (wants y) refl
    (open_count wants classes kept (omega (arith, same)))

pub open_few : {K : Type 0} (wants : K → Bool) (classes : List ℕ) (kept : List K)
    → length kept ≡ length classes → length (open_classes wants classes kept) ≤ length classes
open_few {K} wants classes kept same =
    let count = open_count wants classes kept same in
    let few = count_by-le-length wants kept in
    omega (arith, count, few, same)

-- each of them is a class of the list
in_front : {K : Type 0} (wants : K → Bool) (x : ℕ) (y : K) (classes : List ℕ) (kept : List K)
    (j class : ℕ) (v : Bool) → wants y ≡ v
    → slice_get (open_classes wants (x ∷ classes) (y ∷ kept)) j ≡ Some class
    → ((i : ℕ) → slice_get (open_classes wants classes kept) i ≡ Some class
    → (k : ℕ) × (slice_get classes k ≡ Some class))
    → (k : ℕ) × (slice_get (x ∷ classes) k ≡ Some class)
in_front {K} wants x y classes kept zero class true e at rest =
    (0, subst (λ l. slice_get l 0 ≡ Some class) (open_yes wants x y classes kept e) at)
in_front {K} wants x y classes kept (suc j) class true e at rest =
    let k = rest j
    (subst (λ l. slice_get l (suc j) ≡ Some class) (open_yes wants x y classes kept e) at) in
    (suc k.0, k.1)
in_front {K} wants x y classes kept j class false e at rest =
    let k = rest j
    (subst (λ l. slice_get l j ≡ Some class) (open_no wants x y classes kept e) at) in
    (suc k.0, k.1)

open_in : {K : Type 0} (wants : K → Bool) (classes : List ℕ) (kept : List K) (j class : ℕ)
    → slice_get (open_classes wants classes kept) j ≡ Some class
    → (k : ℕ) × (slice_get classes k ≡ Some class)
open_in {K} wants [] kept j class at = absurd (let bad : None ≡ Some class = at in cc)
open_in {K} wants (x ∷ classes) [] j class at = absurd (let bad : None ≡ Some class = at in cc)
open_in {K} wants (x ∷ classes) (y ∷ kept) j class at =
    in_front wants x y classes kept j class (wants y) refl at
    (λ i there. open_in wants classes kept i class there)

pub open_within : {K : Type 0} (wants : K → Bool) (n : ℕ) (classes : List ℕ) (kept : List K)
    → All (λ class. class < n) classes → All (λ class. class < n) (open_classes wants classes kept)
open_within {K} wants n classes kept all j d lt =
    let class = get_or (open_classes wants classes kept) j d in
    let k = open_in wants classes kept j class
    (slice_get-get_or (open_classes wants classes kept) j d lt) in
    subst (λ c. c < n) (get_or_from_slice_get classes k.0 class d k.1)
    (all k.0 d (slice_get_within classes k.0 class k.1))

-- a value that can be changed has its class among them, behind those of the values before it
behind : {K : Type 0} (wants : K → Bool) (x : ℕ) (y : K) (classes : List ℕ) (kept : List K)
    (k class : ℕ) (v : Bool) → wants y ≡ v
    → slice_get (open_classes wants classes kept) (count_by wants (take k kept)) ≡ Some class
    → slice_get (open_classes wants (x ∷ classes) (y ∷ kept))
    (count_by wants (take (suc k) (y ∷ kept))) ≡ Some class
behind {K} wants x y classes kept k class true e at =
    ap (λ n. slice_get (open_classes wants (x ∷ classes) (y ∷ kept)) n)
    (count_yes wants y (take k kept) e)
    ∙ (ap (λ l. slice_get l (suc (count_by wants (take k kept))))
    (open_yes wants x y classes kept e) ∙ at)
behind {K} wants x y classes kept k class false e at =
    ap (λ n. slice_get (open_classes wants (x ∷ classes) (y ∷ kept)) n)
    (count_no wants y (take k kept) e) ∙ (ap (λ l. slice_get l (count_by wants (take k kept)))
    (open_no wants x y classes kept e) ∙ at)

pub open_there : {K : Type 0} (wants : K → Bool) (classes : List ℕ) (kept : List K) (k class : ℕ)
    (old : K) → slice_get classes k ≡ Some class → slice_get kept k ≡ Some old → wants old ≡ true
    → slice_get (open_classes wants classes kept) (count_by wants (take k kept)) ≡ Some class
open_there {K} wants [] kept k class old at there w =
    absurd (let bad : None ≡ Some class = at in cc)
open_there {K} wants (x ∷ classes) [] k class old at there w =
    absurd (let bad : None ≡ Some old = there in cc)
open_there {K} wants (x ∷ classes) (y ∷ kept) zero class old at there w =
    let both : Some y ≡ Some old = there in
    let same : y ≡ old = cc in
    ap (λ l. slice_get l 0) (open_yes wants x y classes kept (ap wants same ∙ w)) ∙ at
open_there {K} wants (x ∷ classes) (y ∷ kept) (suc k) class old at there w =
    behind wants x y classes kept k class (wants y) refl
    (open_there wants classes kept k class old at there w)

-- those up to one place more
more_front : {K : Type 0} (wants : K → Bool) (x : ℕ) (y : K) (front more : List ℕ) (us vs : List K)
    (tail : List ℕ) (v : Bool) → wants y ≡ v
    → open_classes wants more vs ≡ open_classes wants front us ++ tail
    → open_classes wants (x ∷ more) (y ∷ vs) ≡ open_classes wants (x ∷ front) (y ∷ us) ++ tail
more_front {K} wants x y front more us vs tail true e rest =
    open_yes wants x y more vs e ∙ ap (λ l. x ∷ l) rest
    ∙ ap (λ l. l ++ tail) (sym (open_yes wants x y front us e))
more_front {K} wants x y front more us vs tail false e rest =
    open_no wants x y more vs e ∙ rest ∙ ap (λ l. l ++ tail) (sym (open_no wants x y front us e))

pub open_more : {K : Type 0} (wants : K → Bool) (classes : List ℕ) (kept : List K) (p class : ℕ)
    (one : K) (tail : List ℕ) → slice_get classes p ≡ Some class → slice_get kept p ≡ Some one
    → ((wants one ≡ true) × (tail ≡ class ∷ [])) ⊎ ((wants one ≡ false) × (tail ≡ []))
    → open_classes wants (take (suc p) classes) (take (suc p) kept)
    ≡ open_classes wants (take p classes) (take p kept) ++ tail
open_more {K} wants [] kept p class one tail at there how =
    absurd (let bad : None ≡ Some class = at in cc)
open_more {K} wants (x ∷ classes) [] p class one tail at there how =
    absurd (let bad : None ≡ Some one = there in cc)
open_more {K} wants (x ∷ classes) (y ∷ kept) zero class one tail at there (inl how) =
    let both : Some y ≡ Some one = there in
    let same : y ≡ one = cc in
    let first : Some x ≡ Some class = at in
    let class_is : x ≡ class = cc in
    open_yes wants x y [] [] (ap wants same ∙ how.0) ∙ ap (λ c. c ∷ []) class_is ∙ sym how.1
open_more {K} wants (x ∷ classes) (y ∷ kept) zero class one tail at there (inr how) =
    let both : Some y ≡ Some one = there in
    let same : y ≡ one = cc in
    open_no wants x y [] [] (ap wants same ∙ how.0) ∙ sym how.1
open_more {K} wants (x ∷ classes) (y ∷ kept) (suc p) class one tail at there how =
    more_front wants x y (take p classes) (take (suc p) classes) (take p kept)
    (take (suc p) kept) tail (wants y) refl
    (open_more wants classes kept p class one tail at there how)

-- ---- place after place
-- those before a place were joined, and so many finds were taken
pub record AreJoinedUpTo {K : Type 0} (wants : K → Bool)
    (means : (ℕ → Bool) → ℕ → ℕ → K → Type 0) (start : ℕ) (before found now : List K)
    (place next : ℕ) : Type 0 where
  pub count : length now ≡ length before
  pub next_is : next ≡ count_by wants (take place before)
  pub each : (k : ℕ) (old new : K) → k < place → slice_get before k ≡ Some old
      → slice_get now k ≡ Some new → IsJoinedAt wants means start before found k old new
  pub rest : (k : ℕ) → place ≤ k → slice_get now k ≡ slice_get before k

module _ {K : Type 0} (wants : K → Bool) (means : (ℕ → Bool) → ℕ → ℕ → K → Type 0) (start : ℕ)
    (before found : List K) where
  -- the value at the next place is what it was
  module _ (now : List K) (place next : ℕ) (one : K)
      (were : AreJoinedUpTo wants means start before found now place next)
      (within : place < length now) (one_at : one ≡ get_or now place one) where
    here : slice_get now place ≡ Some one
    here = slice_get-get_or now place one within ∙ ap Some (sym one_at)

    was_here : slice_get before place ≡ Some one
    was_here = sym (were.rest place (omega arith)) ∙ here

    low : place < length before
    low = slice_get_within before place one was_here

    one_is : get_or before place one ≡ one
    one_is = get_or_from_slice_get before place one one was_here

    pub joined_skip : wants one ≡ false
        → AreJoinedUpTo wants means start before found now (place + 1) next
    joined_skip off = record {
      count = were.count;
      next_is = were.next_is ∙ sym (count_by_more_no wants before place one low
          (ap wants one_is ∙ off));
      each = λ k old new lt a b. go k old new a b (cases_lt k place) lt;
      rest = λ k le. were.rest k (omega (arith, le));
    }
      where
        go : (k : ℕ) (old new : K) → slice_get before k ≡ Some old → slice_get now k ≡ Some new
            → (k < place) ⊎ (place ≤ k) → k < place + 1
            → IsJoinedAt wants means start before found k old new
        go k old new a b (inl lt) up = were.each k old new lt a b
        go k old new a b (inr le) up =
            let same : k ≡ place = omega (arith, le, up) in
            let mine : Some old ≡ Some one = sym a ∙ (ap (slice_get before) same ∙ was_here) in
            let theirs : Some new ≡ Some one = sym b ∙ (ap (slice_get now) same ∙ here) in
            let old_is : old ≡ one = cc in
            let new_is : new ≡ one = cc in
            inl (ap wants old_is ∙ off, new_is ∙ sym old_is)

    pub next_within : wants one ≡ true → next < count_by wants before
    next_within on =
        let up = count_by_more_yes wants before place one low (ap wants one_is ∙ on) in
        let all = sum_by-take-le (λ x. cond (wants x) 1 0) before (place + 1) in
        let is = were.next_is in
        omega (arith, up, all, is)

    pub joined_more : (later : K) (after : List K) → wants one ≡ true
        → slice_get found next ≡ Some later → length after ≡ length now
        → ((other : ℕ) → other ≢ place → slice_get after other ≡ slice_get now other)
        → HasJoinedAt means start later now after place
        → AreJoinedUpTo wants means start before found after (place + 1) (next + 1)
    joined_more later after on at long others joined = record {
      count = long ∙ were.count;
      next_is = ap (λ n. n + 1) were.next_is ∙ sym (count_by_more_yes wants before place one low
          (ap wants one_is ∙ on));
      each = λ k old new lt a b. go k old new a b (cases_eq k place) lt;
      rest = λ k le. others k (λ e. let bad : k ≡ place = e in omega (arith, bad, le))
          ∙ were.rest k (omega (arith, le));
    }
      where
        go : (k : ℕ) (old new : K) → slice_get before k ≡ Some old → slice_get after k ≡ Some new
            → (k ≡ place) ⊎ (k ≢ place) → k < place + 1
            → IsJoinedAt wants means start before found k old new
        go k old new a b (inr ne) up =
            were.each k old new (omega (arith, ne, up)) a (sym (others k ne) ∙ b)
        go k old new a b (inl same) up =
            let mine : Some old ≡ Some one = sym a ∙ (ap (slice_get before) same ∙ was_here) in
            let theirs : Some joined.0 ≡ Some one = sym joined.2 ∙ here in
            let news : Some new ≡ Some joined.1 = sym b ∙ (ap (slice_get after) same ∙ joined.3) in
            let old_is : old ≡ joined.0 = cc in
            let one_old : old ≡ one = cc in
            let new_is : new ≡ joined.1 = cc in
            let number : next ≡ count_by wants (take k before) =
            were.next_is ∙ ap (λ n. count_by wants (take n before)) (sym same) in
            inr (
              ap wants one_old ∙ on,
              later,
              ap (slice_get found) (sym number) ∙ at,
              subst (λ v. Joins means start v later new) (sym old_is)
                  (subst (Joins means start joined.0 later) (sym new_is) joined.4),
            )
