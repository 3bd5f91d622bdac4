-- Words of a pack: in which lanes a signal differs, and whether it does in some.
use Rattle.std.proofs.Common.{◌≡◌, ◌≢◌, ℕ, sym, ◌∙◌, ap, Bool, true, false, not, List, refl, subst}
use Rattle.std.specs.Prelude.{All, Contains, slice_index_or, ◌==◌}
use Rattle.std.proofs.lemmas.Bool.{eq-eqb, eqb-true, false≢true}
use Rattle.list_lemmas.proofs.{Members.among, Places.{place_within, placed}}
use Rattle.flat_circuit.{specs.Words.lane, proofs.Public.{lane_zero, index_of}}

-- whether a signal differs in a lane
abbrev pub differs_in : List ℕ → ℕ → ℕ → Bool
differs_in delta s k = lane (slice_index_or delta s 0) k

-- whether a signal differs in some lane
abbrev pub has_word : List ℕ → ℕ → Bool
has_word delta s = not (slice_index_or delta s 0 == 0)

pub is_some : (word : ℕ) → word ≢ 0 → not (word == 0) ≡ true
is_some word ne = go (word == 0) refl
  where
    go : (b : Bool) → (word == 0) ≡ b → not b ≡ true
    go true e = absurd (ne (eqb-true word 0 e))
    go false e = refl

pub some_is : (word : ℕ) → not (word == 0) ≡ true → word ≢ 0
some_is word e none = false≢true (sym (ap not (eq-eqb word 0 none)) ∙ e)

pub none_is : (word : ℕ) → not (word == 0) ≡ false → word ≡ 0
none_is word e = go (word == 0) refl
  where
    go : (b : Bool) → (word == 0) ≡ b → word ≡ 0
    go true is = eqb-true word 0 is
    go false is = absurd (false≢true (sym (sym (ap not is) ∙ e)))

-- a word with a lane that is 1 is not 0
pub lane_some : (word k : ℕ) → lane word k ≡ true → word ≢ 0
lane_some word k on none = false≢true (sym (lane_zero k) ∙ (ap (λ w. lane w k) (sym none) ∙ on))

-- what is true of each element is true of one that a list has
pub each : {X : Type 0} (P : X → Type 0) (xs : List X) → All P xs → (x : X) → Contains xs x → P x
each P xs all x there =
    let p = placed xs x (among xs x there) in
    subst P (index_of xs p.0 x x p.1) (all p.0 x (place_within xs p.0 x p.1))
