-- A hasher of the bytes that were read of a file.
use Rattle.std.proofs.Common.{◌≡◌, ◌∙◌, ◌++◌, ◌-◌, ℕ, List, [], Option, None, Some, ap, append-nil}
use Rattle.std.proofs.Common.{append_assoc, arith, length, length-append, refl, subst, sym, take}
use Rattle.std.{proofs.Math.Logic.∥∥₁_map, proofs.lemmas.List.take_at, specs.Io.KnownBytes.Consumes}
use Rattle.sha2.specs.{Hashers.Holds256, declared.Sha256.Sha256}
use Rattle.job_loading.specs.Sums.{IsSummed, IsSummedAt, read_of}

-- the bytes before those that are left
read_is : (text front left : List ℕ) → text ≡ front ++ left → read_of text left ≡ front
read_is text front left is = ap (λ t. take (length t - length left) t) is
    ∙ take_at front left (length (front ++ left) - length left)
    (omega (arith, length-append front left))

-- a hasher, if there was one, took these bytes
abbrev pub HasTaken : Option Sha256 → Option Sha256 → List ℕ → Type 0
HasTaken before after bytes = (b : Sha256) → after ≡ Some b → (a : Sha256) × (before ≡ Some a)
    × ((m : List ℕ) → Holds256 a m → Holds256 b (m ++ bytes))

-- bytes were read, and a hasher took them
pub summed_more : (known left later : Option (List ℕ)) (before after : Option Sha256)
    (bytes : List ℕ) → IsSummed known left before → Consumes left later bytes
    → HasTaken before after bytes → IsSummed known later after
summed_more known None later before after bytes s read took = record {
  some = λ text e. absurd (cc (s.some text e));
  at = λ text rest e l. absurd (cc (s.some text e));
}
summed_more known (Some rest) None before after bytes s read took = absurd read
summed_more known (Some rest) (Some more) before after bytes s read took = record {
  some = λ text e. refl;
  at = λ text r e l.
      let was = s.at text rest e refl in
      let same : more ≡ r = cc in
      let front = read_of text rest ++ bytes in
      let split : text ≡ front ++ more = was.split ∙ (ap (λ x. read_of text rest ++ x) read
      ∙ sym (append_assoc (read_of text rest) bytes more)) in
      let own : read_of text more ≡ front = read_is text front more split in
      subst (λ x. IsSummedAt text x after) same (record {
        split = split ∙ ap (λ x. x ++ more) (sym own);
        holds = λ b q.
            let own_step = took b q in
            subst (λ x. ∥ Holds256 b x ∥₁) (sym own)
            (∥∥₁_map (was.holds own_step.0 own_step.1) (own_step.2 (read_of text rest)));
      });
}

-- nothing is left, so the hasher holds the text
pub summed_all : (known left : Option (List ℕ)) (hasher : Option Sha256) (text : List ℕ)
    (h : Sha256) → IsSummed known left hasher → known ≡ Some text → left ≡ Some [] → hasher ≡ Some h
    → ∥ Holds256 h text ∥₁
summed_all known left hasher text h s e ended is =
    let at = s.at text [] e ended in
    subst (λ x. ∥ Holds256 h x ∥₁) (read_is text text [] (sym (append-nil text))) (at.holds h is)
