-- The known words of signals, by their marks.
use Rattle.std.proofs.Common.{◌≡◌, ◌≢◌, ◌<◌, ◌==◌, ℕ, zero, suc, refl, sym, ◌∙◌, ap, Bool, true}
use Rattle.std.proofs.Common.{false, List, [], ◌∷◌, ◌++◌, length, set, take, arith, eq-eqb}
use Rattle.std.{proofs.Common.eqb-true, specs.Prelude.{Some, None, slice_index_or, if◌then◌else◌}}
use Rattle.std.proofs.Math.Seq.{take-append_seam}
use Rattle.region_sim.specs.KnownWords.{known_words}

pub known_count : {X : Type 0} (unit : ℕ) (marks : List ℕ) (words : List X) → length marks ≡ length
    words → length (known_words unit marks words) ≡ length words
known_count unit [] [] e = refl
known_count unit [] (w ∷ words) e = absurd (omega (arith, e))
known_count unit (m ∷ marks) [] e = absurd (omega (arith, e))
known_count unit (m ∷ marks) (w ∷ words) e =
    ap suc (known_count unit marks words (omega (arith, e)))

-- a word is known by its mark
pub known_here : {X : Type 0} (unit : ℕ) (marks : List ℕ) (words : List X) (s mark : ℕ) (word : X) →
    length marks ≡ length words
    → s < length words → mark ≡ slice_index_or marks s mark → word ≡ slice_index_or words s word
    → mark ≡ unit → Some word ≡ slice_index_or (known_words unit marks words) s None
known_here unit [] [] s mark word e lt m w is = absurd (omega (arith, lt))
known_here unit [] (y ∷ words) s mark word e lt m w is = absurd (omega (arith, e))
known_here unit (x ∷ marks) [] s mark word e lt m w is = absurd (omega (arith, lt))
known_here unit (x ∷ marks) (y ∷ words) zero mark word e lt m w is =
    ap Some w ∙ ap (λ b. if b then Some y else None) (sym (eq-eqb x unit (sym m ∙ is)))
known_here unit (x ∷ marks) (y ∷ words) (suc s) mark word e lt m w is =
    known_here unit marks words s mark word (omega (arith, e)) (omega (arith, lt)) m w is

pub unknown_here : {X : Type 0} (unit : ℕ) (marks : List ℕ) (words : List X) (s mark : ℕ) → length
    marks ≡ length words → s < length words → mark ≡ slice_index_or marks s mark → mark ≢ unit
    → None ≡ slice_index_or (known_words unit marks words) s None
unknown_here unit [] [] s mark e lt m other = absurd (omega (arith, lt))
unknown_here unit [] (y ∷ words) s mark e lt m other = absurd (omega (arith, e))
unknown_here unit (x ∷ marks) [] s mark e lt m other = absurd (omega (arith, lt))
unknown_here unit (x ∷ marks) (y ∷ words) zero mark e lt m other = go (x == unit) refl
  where
    go : (b : Bool) → (x == unit) ≡ b → None ≡ (if x == unit then Some y else None)
    go true is = absurd (other (m ∙ eqb-true x unit is))
    go false is = sym (ap (λ b. if b then Some y else None) is)
unknown_here unit (x ∷ marks) (y ∷ words) (suc s) mark e lt m other =
    unknown_here unit marks words s mark (omega (arith, e)) (omega (arith, lt)) m other

-- no word is known if each mark is another
pub none_known : {X : Type 0} (unit : ℕ) (marks : List ℕ) (words : List X) (s : ℕ)
    → ((t : ℕ) → t < length marks → slice_index_or marks t 0 ≢ unit)
    → slice_index_or (known_words unit marks words) s None ≡ None
none_known unit [] words s other = refl
none_known unit (m ∷ marks) [] s other = refl
none_known unit (m ∷ marks) (w ∷ words) zero other = go (m == unit) refl
  where
    go : (b : Bool) → (m == unit) ≡ b → (if m == unit then Some w else None) ≡ None
    go true is = absurd (other 0 (omega arith) (eqb-true m unit is))
    go false is = ap (λ b. if b then Some w else None) is
none_known unit (m ∷ marks) (w ∷ words) (suc s) other =
    none_known unit marks words s (λ t lt. other (suc t) (omega (arith, lt)))

-- a word that is kept is known, and the other words are known as before
pub known_more : {X : Type 0} (unit : ℕ) (marks : List ℕ) (words : List X) (s : ℕ) (word : X) →
    length marks ≡ length words → known_words unit (set marks s unit) (set words s word)
    ≡ set (known_words unit marks words) s (Some word)
known_more unit [] [] zero word e = refl
known_more unit [] [] (suc s) word e = refl
known_more unit [] (w ∷ words) s word e = absurd (omega (arith, e))
known_more unit (m ∷ marks) [] s word e = absurd (omega (arith, e))
known_more unit (m ∷ marks) (w ∷ words) zero word e =
    ap (λ b. (if b then Some word else None) ∷ known_words unit marks words) (eq-eqb unit unit refl)
known_more unit (m ∷ marks) (w ∷ words) (suc s) word e =
    ap (λ l. (if m == unit then Some w else None) ∷ l)
    (known_more unit marks words s word (omega (arith, e)))

-- a list that was completely overwritten
pub written : {X : Type 0} (n : ℕ) (xs ys : List X) → length xs ≡ n → take n (xs ++ ys) ≡ xs
written n xs ys e = ap (λ m. take m (xs ++ ys)) (sym e) ∙ take-append_seam xs ys
