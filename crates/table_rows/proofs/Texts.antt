-- The pieces of a text make the text.
use Rattle.std.proofs.Common.{◌≡◌, ◌∙◌, ◌<◌, ◌*◌, ◌/◌, ◌%◌, ◌+◌, ℕ, List, [], ◌∷◌, ◌++◌, ap}
use Rattle.std.proofs.Common.{append_assoc, arith, get_or, length, map, max, refl, subst, suc, sym}
use Rattle.std.{proofs.Common.{take, zero, Bor}, specs.Prelude.{OnOk, Result, codes, decimal, zip}}
use Rattle.std.{specs.List.flat_map, proofs.lemmas.Fmt.decimal_digit, proofs.lemmas.List.get_or-map}
use Rattle.byte_output.proofs.Public.{flat_map_taken}
use Rattle.table_rows.specs.{Cells.{Cell, json_cell, percent}, Table.member}

-- a percentage from its digits, given as texts
pub percent_pieces : (part whole : ℕ) (units tens ones : List ℕ)
    → units ≡ decimal (10000 * part / max whole 1 / 100)
    → tens ≡ decimal (10000 * part / max whole 1 % 100 / 10)
    → ones ≡ decimal (10000 * part / max whole 1 % 100 % 10)
    → units ++ (codes "." ++ (tens ++ (ones ++ []))) ≡ percent part whole
percent_pieces part whole units tens ones e f g =
    let small : 10000 * part / max whole 1 % 100 / 10 < 10 = omega arith in
    let last : 10000 * part / max whole 1 % 100 % 10 < 10 = omega arith in
    rw (e, f, g, decimal_digit _ small, decimal_digit _ last) refl

-- equal texts are added in the same way
pub added_same : {E : Type 0} (r : Result (Unit {0}) E) (old new x y : List ℕ) → x ≡ y
    → OnOk r (new ≡ old ++ x) → OnOk r (new ≡ old ++ y)
added_same r old new x y e h = subst (λ t. OnOk r (new ≡ old ++ t)) e h

-- the items of two lists at a place
pub zipped : {A B : Type 0} (xs : List A) (ys : List B) (i : ℕ) (d : A × B) → i < length xs
    → i < length ys
    → (i < length (zip xs ys)) × (get_or (zip xs ys) i d ≡ (get_or xs i d.0, get_or ys i d.1))
zipped [] ys i d l m = absurd (omega (arith, l))
zipped (x ∷ xs) [] i d l m = absurd (omega (arith, m))
zipped (x ∷ xs) (y ∷ ys) zero d l m = (omega arith, refl)
zipped (x ∷ xs) (y ∷ ys) (suc i) d l m =
    let p = zipped xs ys i d (omega (arith, l)) (omega (arith, m)) in (omega (arith, p.0), p.1)

-- the member of the next place
pub member_added : (keys : List (List ℕ)) (cells : List Cell) (i : ℕ) (d : List ℕ) (e : Cell)
    → i < length keys → i < length cells → flat_map member (take (i + 1) (zip keys cells))
    ≡ flat_map member (take i (zip keys cells)) ++ (get_or keys i d ++ json_cell (get_or cells i e))
member_added keys cells i d e l m =
    let at = zipped keys cells i (d, e) l m in
    flat_map_taken member (zip keys cells) i (d, e) _ at.0 (ap member (sym at.1))

-- two texts, added in turn
pub added_both : (old x y r s : List ℕ) → r ≡ old ++ x → s ≡ r ++ y → s ≡ old ++ (x ++ y)
added_both old x y r s e f = f ∙ (ap (λ u. u ++ y) e ∙ append_assoc old x y)

-- three texts, added in turn
pub added_in_turn : (old x y z r s t : List ℕ) → r ≡ old ++ x → s ≡ r ++ y → t ≡ s ++ z
    → t ≡ old ++ (x ++ (y ++ z))
added_in_turn old x y z r s t e f g = g ∙ (ap (λ u. u ++ z) (f ∙ ap (λ u. u ++ y) e)
    ∙ (append_assoc (old ++ x) y z ∙ append_assoc old x (y ++ z)))

-- a map of a map
pub mapped_twice : {A B C : Type 0} (g : B → C) (f : A → B) (xs : List A)
    → map (λ x. g (f x)) xs ≡ map g (map f xs)
mapped_twice g f [] = refl
mapped_twice g f (x ∷ xs) = ap (λ l. g (f x) ∷ l) (mapped_twice g f xs)

-- a text behind a reference
pub now_at : (xs : List (Bor (List ℕ))) (i : ℕ) (d : Bor (List ℕ)) → i < length xs
    → (get_or xs i d).now ≡ get_or (map (λ x. x.now) xs) i []
now_at xs i d lt = sym (get_or-map (λ x. x.now) xs i d [] lt)
