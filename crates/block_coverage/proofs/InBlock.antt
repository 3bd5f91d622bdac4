-- Whether a fault is in a block, as its name grows by a byte, and what that means.
use Rattle.std.proofs.Common.{◌≡◌, ◌<◌, ◌∙◌, ℕ, Bool, true, false, ◌&&◌, ◌||◌, refl, sym, ap, []}
use Rattle.std.proofs.Common.{◌∷◌, ◌++◌, length, length-append, append_assoc, arith, ◌+◌}
use Rattle.std.specs.Prelude.{◌==◌, bytes_eq}
use Rattle.std.proofs.lemmas.Bool.{and_from, and_parts, and_right, eq-eqb, eqb-true}
use Rattle.bench_net.specs.Statement.{Name}
use Rattle.block_coverage.specs.Blocks.{HoldsInner, IsBlockOf, is_in_block}

pub or_nothing : (t : Bool) → (t || false) ≡ t
or_nothing true = refl
or_nothing false = refl

and_over_or : (t u v : Bool) → (t && (u || v)) ≡ ((t && u) || (t && v))
and_over_or true u v = refl
and_over_or false u v = refl

-- ---- a name that grows

pub in_nothing : (s : ℕ) (b : Name) → is_in_block s b [] ≡ false
in_nothing s [] = refl
in_nothing s (x ∷ b) = refl

-- by another byte than the separator
pub in_other : (s c : ℕ) (b p : Name) → (c == s) ≡ false
    → is_in_block s b (p ++ c ∷ []) ≡ is_in_block s b p
in_other s c [] [] ne = ne
in_other s c [] (x ∷ p) ne = refl
in_other s c (y ∷ b) [] ne = and_right (y == c) (is_in_block s b []) (in_nothing s b)
in_other s c (y ∷ b) (x ∷ p) ne = ap (λ t. (y == x) && t) (in_other s c b p ne)

-- by the separator: the name so far is one more block
pub in_ended : (s : ℕ) (b p : Name)
    → is_in_block s b (p ++ s ∷ []) ≡ (is_in_block s b p || bytes_eq b p)
in_ended s [] [] = eq-eqb s s refl
in_ended s [] (x ∷ p) = sym (or_nothing (x == s))
in_ended s (y ∷ b) [] = and_right (y == s) (is_in_block s b []) (in_nothing s b)
in_ended s (y ∷ b) (x ∷ p) = ap (λ t. (y == x) && t) (in_ended s b p)
    ∙ and_over_or (y == x) (is_in_block s b p) (bytes_eq b p)

pub not_itself : (s : ℕ) (p : Name) → is_in_block s p p ≡ false
not_itself s [] = refl
not_itself s (x ∷ p) = and_right (x == x) (is_in_block s p p) (not_itself s p)

-- ---- what it means

pub block_from : (s : ℕ) (name block : Name) → is_in_block s block name ≡ true
    → IsBlockOf s name block
block_from s [] [] e = cc
block_from s (b ∷ name) [] e = (name, ap (λ c. c ∷ name) (eqb-true b s e))
block_from s [] (x ∷ block) e = cc
block_from s (b ∷ name) (x ∷ block) e =
    let both = and_parts (x == b) (is_in_block s block name) e in
    let rest = block_from s name block both.1 in (
      rest.0,
      ap (λ n. b ∷ n) rest.1 ∙ ap (λ c. c ∷ (block ++ s ∷ rest.0)) (sym (eqb-true x b both.0)),
    )

in_from : (s : ℕ) (block rest : Name) → is_in_block s block (block ++ s ∷ rest) ≡ true
in_from s [] rest = eq-eqb s s refl
in_from s (x ∷ block) rest =
    and_from (x == x) (is_in_block s block (block ++ s ∷ rest)) (eq-eqb x x refl)
    (in_from s block rest)

pub in_block : (s : ℕ) (name block : Name) → IsBlockOf s name block
    → is_in_block s block name ≡ true
in_block s name block is = ap (is_in_block s block) is.1 ∙ in_from s block is.0

pub shorter : (s : ℕ) (name block : Name) → is_in_block s block name ≡ true
    → length block < length name
shorter s name block e =
    let is = block_from s name block e in
    let long : length name ≡ length block + length (s ∷ is.0) =
    ap length is.1 ∙ length-append block (s ∷ is.0) in
    omega (arith, long)

pub inner : (s : ℕ) → HoldsInner s
inner s name block outer is around = (
  around.0 ++ s ∷ is.0,
  is.1 ∙ ap (λ n. n ++ s ∷ is.0) around.1 ∙ append_assoc outer (s ∷ around.0) (s ∷ is.0),
)
