-- What is added to the numbers and the lanes of all pins, group by group.
use Rattle.std.proofs.Common.{◌≡◌, ◌≢◌, ◌<◌, ◌≤◌, ◌+◌, ◌∙◌, ℕ, refl, sym, ap, subst, true, List}
use Rattle.std.{proofs.Common.{length, arith, inl, inr, set, ◌⊎◌}, specs.Bool.Decides}
use Rattle.std.{specs.Prelude.{Some, slice_get, slice_index_or}, proofs.lemmas.Bool.cases_eq}
use Rattle.std.proofs.lemmas.List.{length-set}
use Rattle.flat_circuit.{specs.Words.lane, proofs.Public.{set_here, set_there}}
use Rattle.list_lemmas.proofs.Places.{place_within, within_place}
use Rattle.blocking_pins.specs.{declared.tally.PinCount.PinCount, Counting.IsMarked.unblocked}
use Rattle.blocking_pins.specs.Counting.{AreAdded, AreAllAdded, IsMarked}
use Rattle.blocking_pins.proofs.Adding.{marked_more}

same_some : {X : Type 0} (x y : X) → Some x ≡ Some y → x ≡ y
same_some x y e = cc

before_or : (i n : ℕ) → i < n + 1 → (i < n) ⊎ (i ≡ n)
before_or i n lt = grind (arith, lt)

pub all_added_none : (number : ℕ) (B : ℕ → ℕ → ℕ → Type 0) (counts : List PinCount)
    (rows : List (List ℕ)) → AreAllAdded number B 0 counts counts rows rows
all_added_none number B counts rows = record {
  count = refl;
  room = refl;
  long = λ group row next at at'. ap length (same_some next row (sym at' ∙ at));
  marks = λ i old new at at'. unblocked (λ h. let lt = h.2 in omega (arith, lt))
      (same_some new old (sym at' ∙ at));
  lanes = λ group row next i k at at' lt low. (
    λ on. inl (ap (λ l. lane (slice_index_or l i 0) k) (same_some row next (sym at ∙ at')) ∙ on),
    λ h. go group row next i k (same_some next row (sym at' ∙ at)) h,
  );
}
  where
    go : (group : ℕ) (row next : List ℕ) (i k : ℕ) → next ≡ row
        → (lane (slice_index_or row i 0) k ≡ true) ⊎ ((group < 0) × B group i k)
        → lane (slice_index_or next i 0) k ≡ true
    go group row next i k same (inl on) = ap (λ l. lane (slice_index_or l i 0) k) same ∙ on
    go group row next i k same (inr h) = let lt = h.0 in absurd (omega (arith, lt))

module _ (number : ℕ) (B : ℕ → ℕ → ℕ → Type 0) (end : ℕ) (counts mid after : List PinCount)
    (rows now : List (List ℕ)) (row next : List ℕ)
    (h : AreAllAdded number B end counts mid rows now) (at : slice_get now end ≡ Some row)
    (g : AreAdded number (B end) mid after row next) where
  within : end < length now
  within = place_within now end row at

  here : (x : List ℕ) (group : ℕ) → group ≡ end → slice_get (set now end next) group ≡ Some x
      → x ≡ next
  here x group same e = same_some x next (sym e ∙ (ap (slice_get (set now end next)) same
      ∙ set_here now end next within))

  there : (x : List ℕ) (group : ℕ) → group ≢ end → slice_get (set now end next) group ≡ Some x
      → slice_get now group ≡ Some x
  there x group ne e = sym (set_there now end group next ne) ∙ e

  long_of : (group : ℕ) (old x : List ℕ) → slice_get rows group ≡ Some old
      → slice_get (set now end next) group ≡ Some x → (group ≡ end) ⊎ (group ≢ end)
      → length x ≡ length old
  long_of group old x is e (inr ne) = h.long group old x is (there x group ne e)
  long_of group old x is e (inl same) = ap length (here x group same e) ∙ (g.room
      ∙ h.long group old row is (ap (slice_get now) same ∙ at))

  abbrev Before : ℕ → Type 0
  Before i = (group : ℕ) × (k : ℕ) × (group < end) × (k < 128) × B group i k

  abbrev Here : ℕ → Type 0
  Here i = (k : ℕ) × (k < 128) × B end i k

  abbrev Now : ℕ → Type 0
  Now i = (group : ℕ) × (k : ℕ) × (group < end + 1) × (k < 128) × B group i k

  split : (i : ℕ) (w : Now i) → (w.0 < end) ⊎ (w.0 ≡ end) → Before i ⊎ Here i
  split i w (inl lt) = inl (w.0, w.1, lt, w.3, w.4)
  split i w (inr same) = inr (w.1, w.3, subst (λ x. B x i w.1) same w.4)

  marks_of : (i : ℕ) (old new : PinCount) → slice_get counts i ≡ Some old
      → slice_get after i ≡ Some new → IsMarked number (Now i) old new
  marks_of i old new is e =
      let lt : i < length mid = (let l = place_within counts i old is in let c = h.count in
      omega (arith, l, c)) in
      let m = within_place mid i lt in
      marked_more number (Before i) (Here i) (Now i) old m.0 new
      (λ w. split i w (before_or w.0 end w.2))
      (λ w. (w.0, w.1, (let low = w.2 in omega (arith, low)), w.3, w.4))
      (λ w. (end, w.0, omega arith, w.1, w.2)) (h.marks i old m.0 is m.1) (g.marks i m.0 new m.1 e)

  module _ (group : ℕ) (old x : List ℕ) (i k : ℕ) (is : slice_get rows group ≡ Some old)
      (e : slice_get (set now end next) group ≡ Some x) (lt : i < length old) (low : k < 128) where
    abbrev Old : Type 0
    Old = lane (slice_index_or old i 0) k ≡ true

    lanes_else : group ≢ end → Decides (lane (slice_index_or x i 0) k)
        (Old ⊎ ((group < end + 1) × B group i k))
    lanes_else ne = (λ on. to (both.0 on), λ w. both.1 (from w))
      where
        both : Decides (lane (slice_index_or x i 0) k) (Old ⊎ ((group < end) × B group i k))
        both = h.lanes group old x i k is (there x group ne e) lt low

        to : Old ⊎ ((group < end) × B group i k) → Old ⊎ ((group < end + 1) × B group i k)
        to (inl on) = inl on
        to (inr w) = let l = w.0 in inr (omega (arith, l), w.1)

        from : Old ⊎ ((group < end + 1) × B group i k) → Old ⊎ ((group < end) × B group i k)
        from (inl on) = inl on
        from (inr w) = let l = w.0 in inr (grind (arith, l, ne), w.1)

    lanes_here : group ≡ end → Decides (lane (slice_index_or x i 0) k)
        (Old ⊎ ((group < end + 1) × B group i k))
    lanes_here same = (
      λ on. to (added.0 (ap (λ l. lane (slice_index_or l i 0) k) (sym x_is) ∙ on)),
      λ w. ap (λ l. lane (slice_index_or l i 0) k) x_is ∙ added.1 (from w),
    )
      where
        x_is : x ≡ next
        x_is = here x group same e

        row_at : slice_get now group ≡ Some row
        row_at = ap (slice_get now) same ∙ at

        far : i < length row
        far = let l = h.long group old row is row_at in omega (arith, lt, l)

        added : Decides (lane (slice_index_or next i 0) k)
            ((lane (slice_index_or row i 0) k ≡ true) ⊎ B end i k)
        added = g.lanes i k far low

        both : Decides (lane (slice_index_or row i 0) k) (Old ⊎ ((group < end) × B group i k))
        both = h.lanes group old row i k is row_at lt low

        before : Old ⊎ ((group < end) × B group i k) → Old ⊎ ((group < end + 1) × B group i k)
        before (inl on) = inl on
        before (inr w) = let l = w.0 in inr (omega (arith, l), w.1)

        to : (lane (slice_index_or row i 0) k ≡ true) ⊎ B end i k
            → Old ⊎ ((group < end + 1) × B group i k)
        to (inl on) = before (both.0 on)
        to (inr b) = inr (omega (arith, same), subst (λ y. B y i k) (sym same) b)

        from : Old ⊎ ((group < end + 1) × B group i k)
            → (lane (slice_index_or row i 0) k ≡ true) ⊎ B end i k
        from (inl on) = inl (both.1 (inl on))
        from (inr w) = inr (subst (λ y. B y i k) same w.1)

    lanes_of : (group ≡ end) ⊎ (group ≢ end) → Decides (lane (slice_index_or x i 0) k)
        (Old ⊎ ((group < end + 1) × B group i k))
    lanes_of (inl same) = lanes_here same
    lanes_of (inr ne) = lanes_else ne

  pub all_added_more : AreAllAdded number B (end + 1) counts after rows (set now end next)
  all_added_more = record {
    count = g.count ∙ h.count;
    room = length-set now end next ∙ h.room;
    long = λ group old x is e. long_of group old x is e (cases_eq group end);
    marks = marks_of;
    lanes = λ group old x i k is e lt low.
        lanes_of group old x i k is e lt low (cases_eq group end);
  }
