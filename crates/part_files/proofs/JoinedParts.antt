-- Lemmas on the merge of part files.
use Rattle.std.proofs.Common.{◌≡◌, ◌≢◌, ◌<◌, ◌≤◌, ◌+◌, ◌⊎◌, ℕ, zero, suc, min, List, [], ◌∷◌, ◌++◌}
use Rattle.std.proofs.Common.{take, length, get_or, sym, ap, ◌∙◌, inl, inr, arith, below_more}
use Rattle.std.{proofs.Common.{eq-eqb, eqb, true, false, Contains, Some, None}, specs.Borrow.Bor}
use Rattle.std.{specs.Prelude.slice_get, proofs.Math.Seq.take-append_seam}
use Rattle.std.proofs.lemmas.{List.{ext_get_or, get_or-map, length-map}, Option.slice_get_past}
use Rattle.part_files.specs.{PartReading.texts_in, Merging.{AreJoined, DifferAt, IsJoined}}
use Rattle.region_runs.specs.declared.parts.PartVerdict.{PartVerdict}

-- the verdicts before a place are joined, and the others are as they were
pub record AreJoinedTo (verdicts others both : List PartVerdict) (n : ℕ) : Type 0 where
  pub count : length both ≡ length verdicts
  pub each : (k : ℕ) (v : PartVerdict) → k < n → k < length both
      → IsJoined (get_or verdicts k v) (get_or others k v) (get_or both k v)
  pub rest : (k : ℕ) (v : PartVerdict) → n ≤ k → get_or both k v ≡ get_or verdicts k v

-- one more name that is the same
pub names_more : (fs os : List (Bor (List ℕ))) (n : ℕ) (z : Bor (List ℕ)) → n < length fs
    → n < length os
    → ((i : ℕ) (d : List ℕ) → i < n → get_or (texts_in fs) i d ≡ get_or (texts_in os) i d)
    → (get_or fs n z).now ≡ (get_or os n z).now
    → (i : ℕ) (d : List ℕ) → i < n + 1 → get_or (texts_in fs) i d ≡ get_or (texts_in os) i d
names_more fs os n z p q each e i d h =
    let P : ℕ → Type 0 = λ k. (d : List ℕ) → get_or (texts_in fs) k d ≡ get_or (texts_in os) k d in
    below_more P n (λ k low d. each k d low)
    (λ d. get_or-map (λ (t : Bor (List ℕ)). t.now) fs n z d p
    ∙ (e ∙ sym (get_or-map (λ (t : Bor (List ℕ)). t.now) os n z d q))) i h d

ends : (a b : ℕ) → (a ≤ b) ⊎ (b ≤ a)
ends zero b = inl (omega arith)
ends (suc a) zero = inr (omega arith)
ends (suc a) (suc b) = elim (ends a b) [
  | inl h ↦ inl (omega (arith, h))
  | inr h ↦ inr (omega (arith, h))
]

slice_get_none : {X : Type 0} (xs : List X) (k : ℕ) → slice_get xs k ≡ None → length xs ≤ k
slice_get_none [] k e = omega arith
slice_get_none (x ∷ xs) zero e = let bad : Some x ≡ None = e in cc
slice_get_none (x ∷ xs) (suc k) e = omega (arith, slice_get_none xs k e)

-- names that are equal at each place are equal
pub names_all : (fs os : List (Bor (List ℕ))) (n : ℕ) → length fs ≡ length os → length fs ≤ n
    → ((i : ℕ) (d : List ℕ) → i < n → get_or (texts_in fs) i d ≡ get_or (texts_in os) i d)
    → texts_in fs ≡ texts_in os
names_all fs os n same all each =
    ext_get_or [] (texts_in fs) (texts_in os) (length-map fs _ ∙ (same ∙ sym (length-map os _)))
    (λ i h. each i [] (omega (arith, h, all, length-map fs (λ (t : Bor (List ℕ)). t.now))))

-- if one list ends and the other doesn't, they differ
pub names_end : (fs os : List (Bor (List ℕ))) (n k : ℕ) → k ≤ n
    → ((i : ℕ) (d : List ℕ) → i < n → get_or (texts_in fs) i d ≡ get_or (texts_in os) i d)
    → length fs ≢ length os → k ≡ min (length fs) (length os)
    → DifferAt (texts_in fs) (texts_in os) k
names_end fs os n k low each other least = record {
  same = λ i d h. each i d (omega (arith, h, low));
  differ = λ e. other (one_ends (texts_in fs) (texts_in os) k (length-map fs _)
      (length-map os _) least e);
}
  where
    one_ends : (xs ys : List (List ℕ)) (k : ℕ) → length xs ≡ length fs → length ys ≡ length os
        → k ≡ min (length fs) (length os) → slice_get xs k ≡ slice_get ys k → length fs ≡ length os
    one_ends xs ys k p q least e = elim (ends (length fs) (length os)) [
      | inl less ↦ let past = slice_get_past xs k (omega (arith, p, least, less)) in
          omega (arith, slice_get_none ys k (sym e ∙ past), p, q, least, less)
      | inr more ↦ let past = slice_get_past ys k (omega (arith, q, least, more)) in
          omega (arith, slice_get_none xs k (e ∙ past), p, q, least, more)
    ]

pub same_count : (fs os : List (Bor (List ℕ))) → texts_in fs ≡ texts_in os → length fs ≡ length os
same_count fs os e = sym (length-map fs (λ (t : Bor (List ℕ)). t.now))
    ∙ (ap (λ l. length l) e ∙ length-map os (λ (t : Bor (List ℕ)). t.now))

pub texts_count : (fs : List (Bor (List ℕ))) → length (texts_in fs) ≡ length fs
texts_count fs = length-map fs (λ (t : Bor (List ℕ)). t.now)

-- a part that isn't there
pub fresh_of : (xs ys : List ℕ) (x : ℕ) → ys ≡ xs
    → ((k d : ℕ) → 0 ≤ k → k < length ys → eqb (get_or ys k d) x ≡ false) → Contains xs x → ⊥
fresh_of xs ys x same none at =
    let bad : true ≡ false = sym (eq-eqb (get_or ys at.0 x) x (ap (λ l. get_or l at.0 x) same
    ∙ at.2)) ∙ none at.0 x (omega arith) (omega (arith, at.1, ap (λ l. length l) same)) in cc

-- joined verdicts as a vector holds them
pub joined_items : (a b ws as_were bs rest : List PartVerdict) (n : ℕ) → AreJoined a b ws
    → a ≡ as_were → b ≡ bs → n ≡ length ws → AreJoined as_were bs (take n (ws ++ rest))
joined_items a b ws as_were bs rest n joined e f len =
    let whole : take n (ws ++ rest) ≡ ws = ap (λ m. take m (ws ++ rest)) len
    ∙ take-append_seam ws rest in
    rw (whole, ← e, ← f) joined
