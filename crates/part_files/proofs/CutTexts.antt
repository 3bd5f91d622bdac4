-- Files that are cut at a byte: if the byte is there once, there is one way to cut.
use Rattle.std.proofs.Common.{◌≡◌, ◌≢◌, ◌<◌, ◌≤◌, ◌+◌, ℕ, suc, List, [], ◌∷◌, ◌++◌, length, take}
use Rattle.std.proofs.Common.{drop, get_or, refl, sym, add-one, arith, subst, length-drop}
use Rattle.std.proofs.{Common.length-take, Math.Seq.split_at}
use Rattle.std.proofs.lemmas.List.{get_or-take, get_or-drop}
use Rattle.part_files.specs.Cut.{IsCutFirst, IsCutLast, Lacks}

-- a text without a byte at each place lacks the byte
pub lacks_from : (byte : ℕ) (text : List ℕ) → ((k : ℕ) → k < length text → get_or text k 0 ≢ byte)
    → Lacks byte text
lacks_from byte [] each = tt
lacks_from byte (b ∷ text) each = (
  each 0 (omega arith),
  lacks_from byte text (λ k h. each (suc k) (omega (arith, h))),
)

pub lacks_append : (byte : ℕ) (xs ys : List ℕ) → Lacks byte xs → Lacks byte ys
    → Lacks byte (xs ++ ys)
lacks_append byte [] ys p q = q
lacks_append byte (x ∷ xs) ys p q = (p.0, lacks_append byte xs ys p.1 q)

pub lacks_left : (byte : ℕ) (xs ys : List ℕ) → Lacks byte (xs ++ ys) → Lacks byte xs
lacks_left byte [] ys p = tt
lacks_left byte (x ∷ xs) ys p = (p.0, lacks_left byte xs ys p.1)

pub lacks_right : (byte : ℕ) (xs ys : List ℕ) → Lacks byte (xs ++ ys) → Lacks byte ys
lacks_right byte [] ys p = p
lacks_right byte (x ∷ xs) ys p = lacks_right byte xs ys p.1

-- a text that is cut at a byte has the byte
pub lacks_not : (byte : ℕ) (xs ys : List ℕ) → Lacks byte (xs ++ byte ∷ ys) → ⊥
lacks_not byte [] ys p = p.0 refl
lacks_not byte (x ∷ xs) ys p = lacks_not byte xs ys p.1

-- the place of the first such byte
pub cut_at_first : (byte : ℕ) (text : List ℕ) (at : ℕ) → at < length text → get_or text at 0 ≡ byte
    → ((k : ℕ) → k < at → get_or text k 0 ≢ byte)
    → IsCutFirst byte text (take at text) (drop (at + 1) text)
cut_at_first byte text at within here before = record {
  whole = rw (add-one) (subst (λ b. text ≡ take at text ++ b ∷ drop (suc at) text) here
      (split_at text at 0 within));
  first = lacks_from byte (take at text) (λ k h.
      let low : k < at = omega (arith, h, length-take at text) in
      rw (get_or-take at text k 0 low) (before k low));
}

-- the place of the last such byte
pub cut_at_last : (byte : ℕ) (text : List ℕ) (at : ℕ) → at < length text → get_or text at 0 ≡ byte
    → ((k : ℕ) → at + 1 ≤ k → k < length text → get_or text k 0 ≢ byte)
    → IsCutLast byte text (take at text) (drop (at + 1) text)
cut_at_last byte text at within here after = record {
  whole = rw (add-one) (subst (λ b. text ≡ take at text ++ b ∷ drop (suc at) text) here
      (split_at text at 0 within));
  last = lacks_from byte (drop (at + 1) text) (λ k h.
      let e = get_or-drop (at + 1) text k 0 in
      rw (get_or-drop (at + 1) text k 0) (after (at + 1 + k) (omega arith) (omega (
        arith,
        h,
        length-drop (at + 1) text,
      ))));
}

-- the first such byte is at one place
pub cut_once : (byte : ℕ) (xs ys us vs : List ℕ) → Lacks byte xs → Lacks byte us
    → xs ++ byte ∷ ys ≡ us ++ byte ∷ vs → (xs ≡ us) × (ys ≡ vs)
cut_once byte [] ys [] vs p q e = (refl, cc)
cut_once byte [] ys (u ∷ us) vs p q e = let same : byte ≡ u = cc in absurd (q.0 (sym same))
cut_once byte (x ∷ xs) ys [] vs p q e = let same : x ≡ byte = cc in absurd (p.0 same)
cut_once byte (x ∷ xs) ys (u ∷ us) vs p q e =
    let head : x ≡ u = cc in
    let tail : xs ++ byte ∷ ys ≡ us ++ byte ∷ vs = cc in
    let rest = cut_once byte xs ys us vs p.1 q.1 tail in
    (rw (head, rest.0) refl, rest.1)

-- so is the last
pub cut_last : (byte : ℕ) (xs ys us vs : List ℕ) → Lacks byte ys → Lacks byte vs
    → xs ++ byte ∷ ys ≡ us ++ byte ∷ vs → (xs ≡ us) × (ys ≡ vs)
cut_last byte [] ys [] vs p q e = (refl, cc)
cut_last byte [] ys (u ∷ us) vs p q e =
    let tail : ys ≡ us ++ byte ∷ vs = cc in
    absurd (lacks_not byte us vs (subst (λ t. Lacks byte t) tail p))
cut_last byte (x ∷ xs) ys [] vs p q e =
    let tail : xs ++ byte ∷ ys ≡ vs = cc in
    absurd (lacks_not byte xs ys (subst (λ t. Lacks byte t) (sym tail) q))
cut_last byte (x ∷ xs) ys (u ∷ us) vs p q e =
    let head : x ≡ u = cc in
    let tail : xs ++ byte ∷ ys ≡ us ++ byte ∷ vs = cc in
    let rest = cut_last byte xs ys us vs p q tail in
    (rw (head, rest.0) refl, rest.1)
