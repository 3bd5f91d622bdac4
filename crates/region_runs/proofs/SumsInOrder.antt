-- A sum over a list is the sum over the same elements in another order.
use Rattle.std.proofs.Common.{◌≡◌, ◌≢◌, ◌<◌, ◌≤◌, ◌⊎◌, inl, inr, ℕ, zero, suc, List, set, take}
use Rattle.std.proofs.Common.{length, get_or, sym, ap, ◌∙◌, ◌*◌, arith, replicate, add-one}
use Rattle.std.{specs.List.sum_by, proofs.lemmas.Bool.{cases_eq, cases_lt}}
use Rattle.std.proofs.lemmas.List.{get_or-set_same, get_or-set_other, length-set, ext_get_or}
use Rattle.std.proofs.lemmas.List.{get_or-replicate, length-replicate, take_all}
use Rattle.std.proofs.{lemmas.List.Folds.sum_by-replicate, Math.Nat.mul-zero}
use Rattle.std.proofs.lemmas.List.Sums.{sum_by-set, sum_by_more}

module _ {X : Type 0} (f : X → ℕ) (none : X) (empty : f none ≡ 0) where
  module _ (xs ys : List X) (at from : ℕ → ℕ) (long : length ys ≡ length xs)
      (at_low : (k : ℕ) → k < length xs → at k < length ys)
      (back : (k : ℕ) → k < length xs → from (at k) ≡ k)
      (forth : (i : ℕ) → i < length ys → (from i < length xs) × (at (from i) ≡ i))
      (same : (i : ℕ) → i < length ys → get_or ys i none ≡ get_or xs (from i) none) where
    -- the second list as far as the first k elements of the first one are put into it
    record PutSome (k : ℕ) (zs : List X) : Type 0 where
      count : length zs ≡ length ys
      put : (i : ℕ) → i < length ys → from i < k → get_or zs i none ≡ get_or ys i none
      left : (i : ℕ) → i < length ys → k ≤ from i → get_or zs i none ≡ none
      total : sum_by f zs ≡ sum_by f (take k xs)

    put_all : (k : ℕ) → k ≤ length xs → (zs : List X) × PutSome k zs
    put_all zero le = (
      replicate (length ys) none,
      record {
        count = length-replicate (length ys) none;
        put = λ i lt low. absurd (omega (arith, low));
        left = λ i lt high. get_or-replicate (length ys) i none none lt;
        total = sum_by-replicate f (length ys) none ∙ ap (λ n. length ys * n) empty
            ∙ mul-zero (length ys);
      },
    )
    put_all (suc k) le =
        let was = put_all k (omega (arith, le)) in
        (set was.0 (at k) (get_or xs k none), next was.0 was.1)
      where
        low : k < length xs
        low = omega (arith, le)

        next : (zs : List X) → PutSome k zs → PutSome (suc k) (set zs (at k) (get_or xs k none))
        next zs was = record {
          count = length-set zs (at k) (get_or xs k none) ∙ was.count;
          put = λ i lt less. put i lt less (cases_eq i (at k));
          left = λ i lt high.
              let other : i ≢ at k = λ e. let is = ap from e ∙ back k low in
              omega (arith, high, is) in
              get_or-set_other zs (at k) i (get_or xs k none) none other
              ∙ was.left i lt (omega (arith, high));
          total =
              let here = sum_by-set f zs (at k) (get_or xs k none) none
              (omega (arith, at_low k low, was.count)) in
              let gone = ap f (was.left (at k) (at_low k low)
              (omega (arith, back k low))) ∙ empty in
              let more = sum_by_more f xs k none low in
              let one = ap (λ n. sum_by f (take n xs)) (add-one k) in
              omega (arith, here, gone, more, one, was.total);
        }
          where
            put : (i : ℕ) → i < length ys → from i < suc k → (i ≡ at k) ⊎ (i ≡ at k → ⊥)
                → get_or (set zs (at k) (get_or xs k none)) i none ≡ get_or ys i none
            put i lt less (inl e) = ap (λ j. get_or (set zs (at k) (get_or xs k none)) j none) e
                ∙ get_or-set_same zs (at k) (get_or xs k none) none
                (omega (arith, at_low k low, was.count))
                ∙ ap (λ j. get_or xs j none) (sym (ap from e ∙ back k low)) ∙ sym (same i lt)
            put i lt less (inr other) = get_or-set_other zs (at k) i (get_or xs k none) none other
                ∙ was.put i lt (earlier (cases_lt (from i) k))
              where
                earlier : (from i < k) ⊎ (k ≤ from i) → from i < k
                earlier (inl h) = h
                earlier (inr h) =
                    let is : from i ≡ k = omega (arith, h, less) in
                    absurd (other (sym (forth i lt).1 ∙ ap at is))

    pub sum_in_order : sum_by f ys ≡ sum_by f xs
    sum_in_order =
        let all = put_all (length xs) (omega arith) in
        let is = ext_get_or none all.0 ys all.1.count
        (λ i lt. all.1.put i (omega (arith, lt, all.1.count)) (forth i (omega (
          arith,
          lt,
          all.1.count,
        ))).0) in
        ap (sum_by f) (sym is) ∙ all.1.total ∙ ap (sum_by f) (take_all (length xs) xs (omega arith))
