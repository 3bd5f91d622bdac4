-- Places that are left out of a list: those at which nothing is open.
use Rattle.std.proofs.Common.{◌≡◌, ◌≢◌, ◌<◌, ◌≤◌, ◌+◌, ◌⊎◌, inl, inr, ℕ, Bool, false, sym, ◌∙◌}
use Rattle.std.proofs.Common.{List, Some, ap, subst, length, set, arith}
use Rattle.std.specs.Prelude.{slice_get, unwrap_or}
use Rattle.std.proofs.lemmas.Bool.{cases_eq, cases_lt, false≢true}
use Rattle.std.proofs.lemmas.List.{get_or-set_same, get_or-set_other, length-set}
use Rattle.std.proofs.lemmas.Option.{get_or_from_slice_get, slice_get-get_or, slice_get_within}
use Rattle.flat_circuit.specs.declared.origin.ListedClass.{ListedClass}
use Rattle.region_sim.specs.{OpenPlaces.{AreNextOpen, AreSettled}, RegionHits.IsOpenAt}
pub use Rattle.flat_circuit.proofs.Public.{set_here as get_set_here}

pub get_set_other : {X : Type 0} (xs : List X) (i k : ℕ) (x y : X) → k ≢ i
    → slice_get (set xs i x) k ≡ Some y → slice_get xs k ≡ Some y
get_set_other xs i k x y ne e =
    let long = length-set xs i x in
    let lt = slice_get_within (set xs i x) k y e in
    slice_get-get_or xs k y (omega (arith, lt, long))
    ∙ ap Some (sym (get_or-set_other xs i k x y ne) ∙ get_or_from_slice_get (set xs i x) k y y e)

-- two stretches of settled places, with a place between them that is settled too
pub settled_over : {K : Type 0} (is_open : K → Bool) (kept : List K) (from place to : ℕ) (one : K)
    → AreSettled is_open kept from place → slice_get kept place ≡ Some one → is_open one ≡ false
    → AreSettled is_open kept (place + 1) to → AreSettled is_open kept from to
settled_over {K} is_open kept from place to one before here closed after k le lt =
    go (cases_eq k place)
  where
    low_or_high : (k < place) ⊎ (place ≤ k) → k ≢ place
        → (x : K) × (slice_get kept k ≡ Some x) × (is_open x ≡ false)
    low_or_high (inl low) ne = before k le low
    low_or_high (inr high) ne = after k (omega (arith, high, ne)) lt

    go : (k ≡ place) ⊎ (k ≢ place) → (x : K) × (slice_get kept k ≡ Some x) × (is_open x ≡ false)
    go (inl same) = (one, ap (slice_get kept) same ∙ here, closed)
    go (inr ne) = low_or_high (cases_lt k place) ne

-- a place that is left out
pub left_out : {K : Type 0} (is_open : K → Bool) (kept : List K) (next : List ℕ)
    (before place q : ℕ) → before < length next → before ≤ place → slice_get next place ≡ Some q
    → AreSettled is_open kept (before + 1) q
    → AreNextOpen is_open kept next → AreNextOpen is_open kept (set next before q)
left_out is_open kept next before place q low le is settled was = record {
  count = length-set next before q ∙ was.count;
  following = λ p n e. (let h = stood p n e in elim h [
    | inl both ↦ (let lt = was.following place q is in omega (arith, lt, le, both.0, both.1))
    | inr old ↦ was.following p n old
  ]);
  within = λ p n e. (let h = stood p n e in elim h [
    | inl both ↦ (let lt = was.within place q is in omega (arith, lt, both.1))
    | inr old ↦ was.within p n old
  ]);
  between = λ p n e. (let h = stood p n e in elim h [
    | inl both ↦ subst (λ m. AreSettled is_open kept (m + 1) n) (sym both.0)
        (subst (AreSettled is_open kept (before + 1)) (sym both.1) settled)
    | inr old ↦ was.between p n old
  ]);
}
  where
    stood : (p n : ℕ) → slice_get (set next before q) p ≡ Some n
        → ((p ≡ before) × (n ≡ q)) ⊎ (slice_get next p ≡ Some n)
    stood p n e = go (cases_eq p before)
      where
        go : (p ≡ before) ⊎ (p ≢ before) → ((p ≡ before) × (n ≡ q)) ⊎ (slice_get next p ≡ Some n)
        go (inl same) =
            let both : Some n ≡ Some q = sym e ∙ (ap (slice_get (set next before q)) same
            ∙ get_set_here next before q low) in
            inl (same, cc)
        go (inr ne) = inr (get_set_other next before p q n ne e)

-- at a settled place nothing is open
pub not_settled : {A K : Type 0} (is_open : K → Bool) (rows : List ListedClass) (kept : List K)
    (p q k : ℕ) (row : ListedClass) → AreSettled is_open kept p q → p ≤ k → k < q
    → IsOpenAt is_open rows kept k row → A
not_settled is_open rows kept p q k row settled le lt idle =
    let known = settled k le lt in
    let both : Some idle.one ≡ Some known.0 = sym idle.kept_is ∙ known.1 in
    absurd (false≢true (sym known.2
    ∙ (ap (λ o. is_open (unwrap_or o known.0)) (sym both) ∙ idle.wanted)))
