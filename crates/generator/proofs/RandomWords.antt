-- Random words, one by one and round by round.
use Rattle.std.proofs.Common.{◌≡◌, ◌+◌, ◌∙◌, ℕ, zero, suc, List, [], ◌∷◌, ◌++◌, refl, sym, ap}
use Rattle.std.proofs.Common.{subst, arith}
use Rattle.rand_core.specs.Stream.{Stream, next_u64}
use Rattle.rand_xoshiro.specs.{SplitMix64.splitmix_seed, Xoshiro256.of_seed}
use Rattle.generator.specs.RandomTests.{after_rounds, after_words, next_words, seeded}

one_word : (k : ℕ) (s : Stream)
    → next_words (suc k) s ≡ next_words k s ++ (next_u64 (after_words k s)).0 ∷ []
one_word zero s = refl
one_word (suc k) s = ap (λ (l : List ℕ). (next_u64 s).0 ∷ l) (one_word k (next_u64 s).1)

one_after : (k : ℕ) (s : Stream) → after_words (suc k) s ≡ (next_u64 (after_words k s)).1
one_after zero s = refl
one_after (suc k) s = one_after k (next_u64 s).1

-- a word more, and the numbers after it
pub word_more : (k : ℕ) (s t u : Stream) (words : List ℕ) (x : ℕ) → words ≡ next_words k s
    → t ≡ after_words k s → (x, u) ≡ next_u64 t
    → (words ++ x ∷ [] ≡ next_words (k + 1) s) × (u ≡ after_words (k + 1) s)
word_more k s t u words x was at is = (
  subst (λ n. words ++ x ∷ [] ≡ next_words n s) next (ap (λ (l : List ℕ). l ++ x ∷ []) was
      ∙ (ap (λ (y : ℕ). next_words k s ++ y ∷ []) first ∙ sym (one_word k s))),
  subst (λ n. u ≡ after_words n s) next (second ∙ sym (one_after k s)),
)
  where
    next : suc k ≡ k + 1
    next = omega arith

    first : x ≡ (next_u64 (after_words k s)).0
    first = ap (λ (p : ℕ × Stream). p.0) is ∙ ap (λ (r : Stream). (next_u64 r).0) at

    second : u ≡ (next_u64 (after_words k s)).1
    second = ap (λ (p : ℕ × Stream). p.1) is ∙ ap (λ (r : Stream). (next_u64 r).1) at

-- a round more
pub round_more : (words k : ℕ) (s t u : Stream) → t ≡ after_rounds words k s
    → u ≡ after_words words t → u ≡ after_rounds words (k + 1) s
round_more words k s t u at is =
    let next : suc k ≡ k + 1 = omega arith in
    subst (λ n. u ≡ after_rounds words n s) next (is ∙ ap (after_words words) at)

-- the state of a seed
pub seeded_is : (seed : ℕ) → seeded seed ≡ of_seed (splitmix_seed 32 seed)
unfolding seeded
seeded_is seed = refl
