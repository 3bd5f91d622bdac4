-- What is added to the numbers of the pins, one after the other.
use Rattle.std.proofs.Common.{◌≡◌, ◌≢◌, ◌<◌, ◌≤◌, ◌+◌, ◌-◌, ◌^◌, ◌∙◌, ℕ, refl, sym, ap, subst, true}
use Rattle.std.{proofs.Common.{List, length, arith, inl, inr, ◌⊎◌}, specs.Bool.Decides}
use Rattle.std.specs.Prelude.{Some, min, slice_get, slice_index_or}
use Rattle.flat_circuit.specs.Words.{lane}
use Rattle.list_lemmas.proofs.Places.{place_within, within_place}
use Rattle.blocking_pins.specs.{declared.tally.PinCount.PinCount, Counting.{AreAdded, IsMarked}}
use Rattle.blocking_pins.specs.Counting.IsMarked.{unblocked, again, first}

-- the last fault of a pin that was counted
last_now : (number : ℕ) (P : Type 0) (old new : PinCount) → P → IsMarked number P old new
    → new.last ≡ number
last_now number P old new p (unblocked off e) = absurd (off p)
last_now number P old new p (again on is e) = ap (λ (x : PinCount). x.last) e ∙ is
last_now number P old new p (first on ne e) = ap (λ (x : PinCount). x.last) e

-- the same pin, counted for one property and then for another
pub marked_more : (number : ℕ) (P Q R : Type 0) (old mid new : PinCount)
    → (R → P ⊎ Q) → (P → R) → (Q → R)
    → IsMarked number P old mid → IsMarked number Q mid new → IsMarked number R old new
marked_more number P Q R old mid new split p q (unblocked off e) (unblocked off' e') =
    unblocked (λ r. neither (split r)) (e' ∙ e)
  where
    neither : P ⊎ Q → ⊥
    neither (inl x) = off x
    neither (inr x) = off' x
marked_more number P Q R old mid new split p q (unblocked off e) (again on is e') =
    again (q on) (ap (λ (x : PinCount). x.last) (sym e) ∙ is) (e' ∙ e)
marked_more number P Q R old mid new split p q (unblocked off e) (first on ne e') =
    first (q on) (λ is. ne (ap (λ (x : PinCount). x.last) e ∙ is))
    (e' ∙ ap (λ (x : PinCount). record {
      faults = min (x.faults + 1) (2 ^ 32 - 1);
      last = number;
    }) e)
marked_more number P Q R old mid new split p q (again on is e) (unblocked off' e') =
    again (p on) is (e' ∙ e)
marked_more number P Q R old mid new split p q (again on is e) (again on' is' e') =
    again (p on) is (e' ∙ e)
marked_more number P Q R old mid new split p q (again on is e) (first on' ne e') =
    absurd (ne (ap (λ (x : PinCount). x.last) e ∙ is))
marked_more number P Q R old mid new split p q (first on ne e) (unblocked off' e') =
    first (p on) ne (e' ∙ e)
marked_more number P Q R old mid new split p q (first on ne e) (again on' is' e') =
    first (p on) ne (e' ∙ e)
marked_more number P Q R old mid new split p q (first on ne e) (first on' ne' e') =
    absurd (ne' (ap (λ (x : PinCount). x.last) e))

-- a property that says the same
pub marked_same : (number : ℕ) (P Q : Type 0) (old new : PinCount) → (P → Q) → (Q → P)
    → IsMarked number P old new → IsMarked number Q old new
marked_same number P Q old new to from (unblocked off e) = unblocked (λ q. off (from q)) e
marked_same number P Q old new to from (again on is e) = again (to on) is e
marked_same number P Q old new to from (first on ne e) = first (to on) ne e

-- nothing is added
pub added_none : (number : ℕ) (B : ℕ → ℕ → Type 0) (counts : List PinCount) (row : List ℕ)
    → ((i k : ℕ) → k < 128 → B i k → ⊥) → AreAdded number B counts counts row row
added_none number B counts row none = record {
  count = refl;
  room = refl;
  marks = λ i old new at at'.
      unblocked (λ h. none i h.0 h.1 h.2) (let is : Some new ≡ Some old = sym at' ∙ at in cc);
  lanes = λ i k lt low. (λ on. inl on, λ h. go i k low h);
}
  where
    go : (i k : ℕ) → k < 128 → (lane (slice_index_or row i 0) k ≡ true) ⊎ B i k
        → lane (slice_index_or row i 0) k ≡ true
    go i k low (inl on) = on
    go i k low (inr b) = absurd (none i k low b)

-- one relation after the other
pub added_more : (number : ℕ) (A B C : ℕ → ℕ → Type 0) (counts mid after : List PinCount)
    (row between now : List ℕ) → ((i k : ℕ) → k < 128 → C i k → A i k ⊎ B i k)
    → ((i k : ℕ) → k < 128 → A i k → C i k) → ((i k : ℕ) → k < 128 → B i k → C i k)
    → AreAdded number A counts mid row between → AreAdded number B mid after between now
    → AreAdded number C counts after row now
added_more number A B C counts mid after row between now split a b g h = record {
  count = h.count ∙ g.count;
  room = h.room ∙ g.room;
  marks = marks;
  lanes = λ i k lt low. (λ on. there i k lt low on, λ x. back i k lt low x);
}
  where
    marks : (i : ℕ) (old new : PinCount) → slice_get counts i ≡ Some old
        → slice_get after i ≡ Some new → IsMarked number ((k : ℕ) × (k < 128) × C i k) old new
    marks i old new at at' =
        let lt : i < length mid = (let l = place_within counts i old at in let e = g.count in
        omega (arith, l, e)) in
        let m = within_place mid i lt in
        marked_more number ((k : ℕ) × (k < 128) × A i k) ((k : ℕ) × (k < 128) × B i k)
        ((k : ℕ) × (k < 128) × C i k) old m.0 new (λ c. part i c)
        (λ x. (x.0, x.1, a i x.0 x.1 x.2)) (λ x. (x.0, x.1, b i x.0 x.1 x.2))
        (g.marks i old m.0 at m.1) (h.marks i m.0 new m.1 at')
      where
        part : (i : ℕ) → ((k : ℕ) × (k < 128) × C i k)
            → ((k : ℕ) × (k < 128) × A i k) ⊎ ((k : ℕ) × (k < 128) × B i k)
        part i c = go (split i c.0 c.1 c.2)
          where
            go : A i c.0 ⊎ B i c.0 → ((k : ℕ) × (k < 128) × A i k) ⊎ ((k : ℕ) × (k < 128) × B i k)
            go (inl x) = inl (c.0, c.1, x)
            go (inr x) = inr (c.0, c.1, x)

    there : (i k : ℕ) → i < length row → k < 128 → lane (slice_index_or now i 0) k ≡ true
        → (lane (slice_index_or row i 0) k ≡ true) ⊎ C i k
    there i k lt low on = go ((h.lanes i k (let e = g.room in omega (arith, lt, e)) low).0 on)
      where
        from_first : (lane (slice_index_or row i 0) k ≡ true) ⊎ A i k
            → (lane (slice_index_or row i 0) k ≡ true) ⊎ C i k
        from_first (inl x) = inl x
        from_first (inr x) = inr (a i k low x)

        go : (lane (slice_index_or between i 0) k ≡ true) ⊎ B i k
            → (lane (slice_index_or row i 0) k ≡ true) ⊎ C i k
        go (inl x) = from_first ((g.lanes i k lt low).0 x)
        go (inr x) = inr (b i k low x)

    back : (i k : ℕ) → i < length row → k < 128 → (lane (slice_index_or row i 0) k ≡ true) ⊎ C i k
        → lane (slice_index_or now i 0) k ≡ true
    back i k lt low x =
        let far : i < length between = (let e = g.room in omega (arith, lt, e)) in go far x
      where
        from_split : i < length between → A i k ⊎ B i k → lane (slice_index_or now i 0) k ≡ true
        from_split far (inl y) = (h.lanes i k far low).1 (inl ((g.lanes i k lt low).1 (inr y)))
        from_split far (inr y) = (h.lanes i k far low).1 (inr y)

        go : i < length between → (lane (slice_index_or row i 0) k ≡ true) ⊎ C i k
            → lane (slice_index_or now i 0) k ≡ true
        go far (inl y) = (h.lanes i k far low).1 (inl ((g.lanes i k lt low).1 (inl y)))
        go far (inr y) = from_split far (split i k low y)

-- a relation that says the same
pub added_same : (number : ℕ) (A B : ℕ → ℕ → Type 0) (counts after : List PinCount)
    (row now : List ℕ) → ((i k : ℕ) → k < 128 → A i k → B i k)
    → ((i k : ℕ) → k < 128 → B i k → A i k) → AreAdded number A counts after row now
    → AreAdded number B counts after row now
added_same number A B counts after row now to from h = record {
  count = h.count;
  room = h.room;
  marks = λ i old new at at'. marked_same number ((k : ℕ) × (k < 128) × A i k)
      ((k : ℕ) × (k < 128) × B i k) old new (λ x. (x.0, x.1, to i x.0 x.1 x.2))
      (λ x. (x.0, x.1, from i x.0 x.1 x.2)) (h.marks i old new at at');
  lanes = λ i k lt low. (
    λ on. there i k low ((h.lanes i k lt low).0 on),
    λ x. (h.lanes i k lt low).1 (back i k low x),
  );
}
  where
    there : (i k : ℕ) → k < 128 → (lane (slice_index_or row i 0) k ≡ true) ⊎ A i k
        → (lane (slice_index_or row i 0) k ≡ true) ⊎ B i k
    there i k low (inl x) = inl x
    there i k low (inr x) = inr (to i k low x)

    back : (i k : ℕ) → k < 128 → (lane (slice_index_or row i 0) k ≡ true) ⊎ B i k
        → (lane (slice_index_or row i 0) k ≡ true) ⊎ A i k
    back i k low (inl x) = inl x
    back i k low (inr x) = inr (from i k low x)
