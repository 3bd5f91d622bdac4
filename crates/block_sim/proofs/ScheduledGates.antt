-- A pass over the readers of a signal, after which they wait.
use Rattle.std.proofs.Common.{◌≡◌, ◌≢◌, ◌<◌, ◌≤◌, ℕ, ◌+◌, refl, sym, ◌∙◌, ap, subst, List, length}
use Rattle.std.proofs.{Common.{set, arith, inl, inr, ◌⊎◌}, lemmas.Bool.cases_eq}
use Rattle.std.specs.Prelude.{Some, slice_get, slice_index_or}
use Rattle.std.proofs.lemmas.List.{get_or-set_same, get_or-set_other}
use Rattle.bench_net.specs.Statement.{Statement}
use Rattle.list_lemmas.proofs.{Members.among, Places.{placed, place_within}}
use Rattle.flat_circuit.specs.{Readers.{Reads, IsLive}, Flat.AreReaders}
use Rattle.flat_circuit.proofs.Public.{index_of, at_end}
use Rattle.block_sim.specs.Events.{AreScheduled}

-- the first readers wait, and no others have begun to wait
pub record HasScheduled (c : List Statement) (s : ℕ) (items : List ℕ) (i : ℕ)
    (before at : List ℕ) : Type 0 where
  pub readers : (j gate : ℕ) → j < i → slice_get items j ≡ Some gate → slice_index_or at gate 0 ≢ 0
  pub only : (r : ℕ) → (slice_index_or at r 0 ≡ slice_index_or before r 0)
      ⊎ ((Reads c r s × IsLive c r) × (slice_index_or at r 0 ≢ 0))

pub scheduled_none : (c : List Statement) (s : ℕ) (items at : List ℕ)
    → HasScheduled c s items 0 at at
scheduled_none c s items at = record {
  readers = λ j gate lt. absurd (omega (arith, lt));
  only = λ r. inl refl;
}

module _ (c : List Statement) (s : ℕ) (items : List ℕ) (are : AreReaders c s items) where
  -- one reader more
  pub scheduled_added : (i gate : ℕ) (before at : List ℕ) → slice_index_or items i 0 ≡ gate
      → i < length items → HasScheduled c s items i before at → gate < length at
      → HasScheduled c s items (i + 1) before (set at gate 1)
  scheduled_added i gate before at is_own lt h within = record {
    readers = λ j g below is. readers j g (at_end i j below) is;
    only = λ r. only r (cases_eq r gate);
  }
    where
      after : List ℕ
      after = set at gate 1

      here : slice_index_or after gate 0 ≢ 0
      here e = let one = get_or-set_same at gate 1 0 within in omega (arith, one, e)

      stays : (g : ℕ) → slice_index_or at g 0 ≢ 0 → (g ≡ gate) ⊎ (g ≢ gate)
          → slice_index_or after g 0 ≢ 0
      stays g ne (inl same) = subst (λ x. slice_index_or after x 0 ≢ 0) (sym same) here
      stays g ne (inr other) = λ z. ne (sym (get_or-set_other at gate g 1 0 other) ∙ z)

      readers : (j g : ℕ) → (j < i) ⊎ (j ≡ i) → slice_get items j ≡ Some g
          → slice_index_or after g 0 ≢ 0
      readers j g (inl below) is = stays g (h.readers j g below is) (cases_eq g gate)
      readers j g (inr same) is =
          let one : gate ≡ g = sym is_own
          ∙ index_of items i g 0 (ap (slice_get items) (sym same) ∙ is) in
          subst (λ x. slice_index_or after x 0 ≢ 0) one here

      only : (r : ℕ) → (r ≡ gate) ⊎ (r ≢ gate)
          → (slice_index_or after r 0 ≡ slice_index_or before r 0)
          ⊎ ((Reads c r s × IsLive c r) × (slice_index_or after r 0 ≢ 0))
      only r (inl same) = inr (
        subst (λ x. Reads c x s × IsLive c x) (is_own ∙ sym same) (are.each i 0 lt),
        subst (λ x. slice_index_or after x 0 ≢ 0) (sym same) here,
      )
      only r (inr other) = go (h.only r)
        where
          kept : slice_index_or after r 0 ≡ slice_index_or at r 0
          kept = get_or-set_other at gate r 1 0 other

          go : (slice_index_or at r 0 ≡ slice_index_or before r 0)
              ⊎ ((Reads c r s × IsLive c r) × (slice_index_or at r 0 ≢ 0))
              → (slice_index_or after r 0 ≡ slice_index_or before r 0)
              ⊎ ((Reads c r s × IsLive c r) × (slice_index_or after r 0 ≢ 0))
          go (inl e) = inl (kept ∙ e)
          go (inr w) = inr (w.0, λ z. w.1 (sym kept ∙ z))

  -- all readers
  pub scheduled_all : (i : ℕ) (before at : List ℕ) → length items ≤ i
      → HasScheduled c s items i before at → AreScheduled c s before at
  scheduled_all i before later le h = record {
    readers = λ r reads live.
        let there = placed items r (among items r (are.all r reads live)) in
        let lt = place_within items there.0 r there.1 in
        h.readers there.0 r (omega (arith, lt, le)) there.1;
    only = h.only;
  }
