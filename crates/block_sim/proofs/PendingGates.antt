-- The number of gates that are still to be evaluated at most: the gates that wait, and the gates
-- above the level.
use Rattle.std.proofs.Common.{◌≡◌, ◌≢◌, ◌<◌, ◌≤◌, ℕ, ◌+◌, refl, sym, ◌∙◌, ap, Bool, true, false}
use Rattle.std.proofs.Common.{not, cond, List, [], ◌∷◌, length, arith, set, inl, inr, ◌⊎◌}
use Rattle.std.specs.Prelude.{Contains, count_by, slice_index_or, nat_lt, ◌==◌}
use Rattle.std.proofs.lemmas.List.{get_or-set_same, get_or-set_other, Sums.sum_by-cons}
use Rattle.std.proofs.lemmas.Bool.{cases_eq, false≢true, ltb-true, lt-ltb, le-ltb, eq-eqb, eqb-true}
use Rattle.std.proofs.lemmas.Bool.{or_left, or_right, or_cases}
use Rattle.bench_net.specs.Statement.{Statement}
use Rattle.list_lemmas.proofs.Members.{Among, among}
use Rattle.flat_circuit.specs.Readers.{Reads, IsLive}
use Rattle.block_sim.specs.{Events.AreScheduled, Propagation.is_pending}

abbrev weight : Bool → ℕ
weight b = cond b 1 0

count_cons : (p : ℕ → Bool) (x : ℕ) (xs : List ℕ)
    → count_by p (x ∷ xs) ≡ weight (p x) + count_by p xs
count_cons p x xs = sum_by-cons (λ y. cond (p y) 1 0) x xs

weight_le : (a b : Bool) → (b ≡ true → a ≡ true) → weight b ≤ weight a
weight_le true true h = omega arith
weight_le true false h = omega arith
weight_le false true h = absurd (false≢true (h refl))
weight_le false false h = omega arith

pub count_le : (p q : ℕ → Bool) (xs : List ℕ) → ((x : ℕ) → q x ≡ true → p x ≡ true)
    → count_by q xs ≤ count_by p xs
count_le p q [] h = omega arith
count_le p q (x ∷ xs) h =
    let a = count_cons p x xs in let b = count_cons q x xs in let w = weight_le (p x) (q x) (h x) in
    let rest = count_le p q xs h in
    omega (arith, a, b, w, rest)

pub count_less : (p q : ℕ → Bool) (g : ℕ) (xs : List ℕ) → ((x : ℕ) → q x ≡ true → p x ≡ true)
    → p g ≡ true → q g ≡ false → Among g xs → count_by q xs + 1 ≤ count_by p xs
count_less p q g [] h is isnt a = absurd a
count_less p q g (x ∷ xs) h is isnt (inl e) =
    let m = count_cons p x xs in let n = count_cons q x xs in let rest = count_le p q xs h in
    let one : weight (p x) ≡ 1 = ap weight (ap p e ∙ is) in
    let none : weight (q x) ≡ 0 = ap weight (ap q e ∙ isnt) in
    omega (arith, m, n, one, none, rest)
count_less p q g (x ∷ xs) h is isnt (inr a) =
    let m = count_cons p x xs in let n = count_cons q x xs in let w = weight_le (p x) (q x) (h x) in
    let rest = count_less p q g xs h is isnt a in
    omega (arith, m, n, w, rest)

waits_true : (x : ℕ) → x ≢ 0 → not (x == 0) ≡ true
waits_true x ne = go (x == 0) refl
  where
    go : (b : Bool) → (x == 0) ≡ b → not b ≡ true
    go true e = absurd (ne (eqb-true x 0 e))
    go false e = refl

true_waits : (x : ℕ) → not (x == 0) ≡ true → x ≢ 0
true_waits x e zero_is = false≢true (sym (ap not (eq-eqb x 0 zero_is)) ∙ e)

module _ (lv : ℕ → ℕ) (at : List ℕ) (level : ℕ) where
  pub pending_waits : (g : ℕ) → slice_index_or at g 0 ≢ 0 → is_pending lv at level g ≡ true
  pending_waits g ne = or_right (nat_lt level (lv g)) (not (slice_index_or at g 0 == 0))
      (waits_true (slice_index_or at g 0) ne)

  pub pending_above : (g : ℕ) → level < lv g → is_pending lv at level g ≡ true
  pending_above g lt = or_left (nat_lt level (lv g)) (not (slice_index_or at g 0 == 0))
      (lt-ltb level (lv g) lt)

  pub pending_cases : (g : ℕ) → is_pending lv at level g ≡ true
      → (level < lv g) ⊎ (slice_index_or at g 0 ≢ 0)
  pending_cases g e = go (or_cases (nat_lt level (lv g)) (not (slice_index_or at g 0 == 0)) e)
    where
      go : (nat_lt level (lv g) ≡ true) ⊎ (not (slice_index_or at g 0 == 0) ≡ true)
          → (level < lv g) ⊎ (slice_index_or at g 0 ≢ 0)
      go (inl h) = inl (ltb-true level (lv g) h)
      go (inr h) = inr (true_waits (slice_index_or at g 0) h)

-- a gate of the level that is taken stops being pending
pub pending_taken : (lv : ℕ → ℕ) (at : List ℕ) (level g : ℕ) (gates : List ℕ) → g < length at
    → lv g ≡ level → slice_index_or at g 0 ≢ 0 → Contains gates g
    → count_by (is_pending lv (set at g 0) level) gates + 1 ≤ count_by (is_pending lv at level)
    gates
pending_taken lv at level g gates within here waits listed =
    count_less (is_pending lv at level) (is_pending lv (set at g 0) level) g gates kept
    (pending_waits lv at level g waits)
    (rw (get_or-set_same at g 0 0 within, le-ltb level (lv g) (omega (arith, here))) refl)
    (among gates g listed)
  where
    kept : (x : ℕ) → is_pending lv (set at g 0) level x ≡ true → is_pending lv at level x ≡ true
    kept x e = go (pending_cases lv (set at g 0) level x e) (cases_eq x g)
      where
        go : (level < lv x) ⊎ (slice_index_or (set at g 0) x 0 ≢ 0) → (x ≡ g) ⊎ (x ≢ g)
            → is_pending lv at level x ≡ true
        go (inl lt) same = pending_above lv at level x lt
        go (inr ne) (inl same) = pending_waits lv at level x
            (λ h. waits (ap (λ y. slice_index_or at y 0) (sym same) ∙ h))
        go (inr ne) (inr other) = pending_waits lv at level x
            (λ h. ne (get_or-set_other at g x 0 0 other ∙ h))

-- gates that are scheduled lie above the level, so they were pending before
pub pending_scheduled : (c : List Statement) (lv : ℕ → ℕ) (before after : List ℕ) (level s : ℕ)
    (gates : List ℕ) → ((r : ℕ) → Reads c r s → level < lv r) → AreScheduled c s before after
    → count_by (is_pending lv after level) gates ≤ count_by (is_pending lv before level) gates
pending_scheduled c lv before after level s gates above scheduled =
    count_le (is_pending lv before level) (is_pending lv after level) gates kept
  where
    kept : (x : ℕ) → is_pending lv after level x ≡ true → is_pending lv before level x ≡ true
    kept x e = go (pending_cases lv after level x e) (scheduled.only x)
      where
        go : (level < lv x) ⊎ (slice_index_or after x 0 ≢ 0)
            → (slice_index_or after x 0 ≡ slice_index_or before x 0)
            ⊎ ((Reads c x s × IsLive c x) × (slice_index_or after x 0 ≢ 0))
            → is_pending lv before level x ≡ true
        go (inl lt) w = pending_above lv before level x lt
        go (inr ne) (inl same) = pending_waits lv before level x (λ h. ne (same ∙ h))
        go (inr ne) (inr w) = pending_above lv before level x (above x w.0.0)

-- at a higher level no more gates are pending
pub pending_higher : (lv : ℕ → ℕ) (at : List ℕ) (level next : ℕ) (gates : List ℕ) → level ≤ next
    → count_by (is_pending lv at next) gates ≤ count_by (is_pending lv at level) gates
pending_higher lv at level next gates le = count_le (is_pending lv at level) (is_pending lv at next)
    gates kept
  where
    kept : (x : ℕ) → is_pending lv at next x ≡ true → is_pending lv at level x ≡ true
    kept x e = go (pending_cases lv at next x e)
      where
        go : (next < lv x) ⊎ (slice_index_or at x 0 ≢ 0) → is_pending lv at level x ≡ true
        go (inl lt) = pending_above lv at level x (omega (arith, lt, le))
        go (inr ne) = pending_waits lv at level x ne

pub count_at_most : (p : ℕ → Bool) (xs : List ℕ) → count_by p xs ≤ length xs
count_at_most p [] = omega arith
count_at_most p (x ∷ xs) = let a = count_cons p x xs in let w = weight_one (p x) in
    let rest = count_at_most p xs in omega (arith, a, w, rest)
  where
    weight_one : (b : Bool) → weight b ≤ 1
    weight_one true = omega arith
    weight_one false = omega arith

-- a listed gate is counted
pub count_one : (g : ℕ) (xs : List ℕ) → Contains xs g → 0 < count_by (λ x. x == g) xs
count_one g xs at =
    let less = count_less (λ x. x == g) (λ x. false) g xs (λ x e. absurd (false≢true e))
    (eq-eqb g g refl) refl (among xs g at) in omega (arith, less)

-- if no gate waits any more
pub pending_cleared : (lv : ℕ → ℕ) (at idle : List ℕ) (level : ℕ) (gates : List ℕ)
    → ((g : ℕ) → slice_index_or idle g 0 ≡ 0)
    → count_by (is_pending lv idle level) gates ≤ count_by (is_pending lv at level) gates
pending_cleared lv at idle level gates none =
    count_le (is_pending lv at level) (is_pending lv idle level) gates
    (λ x e. go x (pending_cases lv idle level x e))
  where
    go : (x : ℕ) → (level < lv x) ⊎ (slice_index_or idle x 0 ≢ 0) → is_pending lv at level x ≡ true
    go x (inl lt) = pending_above lv at level x lt
    go x (inr ne) = absurd (ne (none x))
