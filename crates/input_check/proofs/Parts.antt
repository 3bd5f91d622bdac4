-- Texts that are added one after another.
use Rattle.std.proofs.Common.{◌≡◌, ◌∙◌, ◌+◌, ◌<◌, ℕ, zero, suc, List, [], ◌∷◌, ◌++◌, ap, append-nil}
use Rattle.std.proofs.Common.{append_assoc, arith, get_or, length, map, subst, sym, take}
use Rattle.std.{proofs.Math.Numerals.add-one, specs.List.flat_map, specs.Prelude.{OnOk, Result}}

-- three parts of a text
pub three_parts : {E : Type 0} (r : Result (Unit {0}) E) (old a b new x y z : List ℕ)
    → a ≡ old ++ x → b ≡ a ++ y → OnOk r (new ≡ b ++ z) → OnOk r (new ≡ old ++ (x ++ (y ++ z)))
three_parts r old a b new x y z e f h =
    subst (λ t. OnOk r (new ≡ t)) (ap (λ t. t ++ z) (f ∙ ap (λ t. t ++ y) e)
    ∙ (append_assoc (old ++ x) y z ∙ append_assoc old x (y ++ z))) h

-- six parts of a text
pub six_parts : (s t u v w x a b c d e f : List ℕ) → s ≡ a → t ≡ s ++ b → u ≡ t ++ c
    → v ≡ u ++ d → w ≡ v ++ e → x ≡ w ++ f → x ≡ a ++ (b ++ (c ++ (d ++ (e ++ f))))
six_parts s t u v w x a b c d e f h i j k l m =
    let four : v ≡ a ++ (b ++ (c ++ d)) = k ∙ (ap (λ y. y ++ d) (j ∙ ap (λ y. y ++ c)
    (i ∙ ap (λ y. y ++ b) h)) ∙ (append_assoc (a ++ b) c d ∙ append_assoc a b (c ++ d))) in
    m ∙ (ap (λ y. y ++ f) (l ∙ ap (λ y. y ++ e) four) ∙ simp append_assoc)

-- the text of one more element
one_more : {X Y : Type 0} (f : Y → List ℕ) (g : X → Y) (xs : List X) (i : ℕ) (d : X)
    → i < length xs → flat_map f (map g (take (suc i) xs))
    ≡ flat_map f (map g (take i xs)) ++ f (g (get_or xs i d))
one_more f g [] i d lt = absurd (omega arith)
one_more f g (x ∷ xs) zero d lt = append-nil (f (g x))
one_more f g (x ∷ xs) (suc i) d lt = ap (λ t. f (g x) ++ t) (one_more f g xs i d (omega arith))
    ∙ sym (append_assoc (f (g x)) (flat_map f (map g (take i xs))) (f (g (get_or xs i d))))

pub with_next : {X Y : Type 0} (f : Y → List ℕ) (g : X → Y) (xs : List X) (i : ℕ) (x : X)
    (old new : List ℕ) → i < length xs → x ≡ get_or xs i x → old ≡ flat_map f (map g (take i xs))
    → new ≡ old ++ f (g x) → new ≡ flat_map f (map g (take (i + 1) xs))
with_next f g xs i x old new lt is h e = rw add-one (e ∙ (ap (λ t. t ++ f (g x)) h
    ∙ (ap (λ y. flat_map f (map g (take i xs)) ++ f (g y)) is ∙ sym (one_more f g xs i x lt))))
