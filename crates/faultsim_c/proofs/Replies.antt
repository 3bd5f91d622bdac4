-- The meaning of the status if tests in words aren't taken.
use Rattle.std.proofs.Common.{◌≡◌, ◌⊎◌, inl, inr, ℕ, Bool, false, List, refl, subst, arith}
use Rattle.patterns.specs.{Making.IsWordsRefusal, declared.WordsFault.WordsFault}
use Rattle.patterns.specs.declared.WordsFault.TheVariants as words
use Rattle.bench_net.specs.declared.BenchFault.TheVariants as bench
use Rattle.patterns.specs.declared.TestFault.TheVariants as tests
use Rattle.faultsim_c.specs.Statuses.{AreTooMany, IsWordsReply, error_numbers, status_number}
use Rattle.faultsim_c.specs.declared.status.{FsFault.FsFault, Refusal.Refusal}
use Rattle.faultsim_c.specs.declared.status.Refusal.TheVariants as refusal

two_three : ◌≡◌ {A = ℕ} 2 3 → ⊥
two_three e = omega (arith, e)

five_three : ◌≡◌ {A = ℕ} 5 3 → ⊥
five_three e = omega (arith, e)

words_fault : (width count : ℕ) (ws : List ℕ) (f : WordsFault)
    → (f ≡ words.Memory) ⊎ IsWordsRefusal width count ws f
    → status_number (refusal.Words f) ≡ 3 → IsWordsRefusal width count ws f
words_fault width count ws f (inl e) three =
    absurd (two_three (subst (λ (g : WordsFault). status_number (refusal.Words g) ≡ 3) e three))
words_fault width count ws f (inr is) three = is

-- they have an error if the status is 3, and it is written
pub words_refused : (alone : Bool) (width count : ℕ) (ws : List ℕ) (r : Refusal) (told : FsFault)
    → IsWordsReply alone width count ws r → status_number r ≡ 3 → told ≡ error_numbers r
    → (f : WordsFault) × IsWordsRefusal width count ws f × (told ≡ error_numbers (refusal.Words f))
words_refused alone width count ws (refusal.Words f) told is three tells =
    (f, words_fault width count ws f is three, tells)
words_refused alone width count ws refusal.Memory told is three tells = absurd (two_three three)
words_refused alone width count ws refusal.Shared told is three tells = absurd (five_three three)
words_refused alone width count ws (refusal.Bench f) told is three tells = absurd is
words_refused alone width count ws (refusal.Tests f) told is three tells = absurd is

two_five : ◌≡◌ {A = ℕ} 2 5 → ⊥
two_five e = omega (arith, e)

three_five : ◌≡◌ {A = ℕ} 3 5 → ⊥
three_five e = omega (arith, e)

-- the status 5 comes only for a job that is shared
is_shared : (r : Refusal) → status_number r ≡ 5 → r ≡ refusal.Shared
is_shared refusal.Shared five = refl
is_shared refusal.Memory five = absurd (two_five five)
is_shared (refusal.Bench bench.Memory) five = absurd (two_five five)
is_shared (refusal.Bench (bench.TooLarge limit)) five = absurd (three_five five)
is_shared (refusal.Bench (bench.Syntax line)) five = absurd (three_five five)
is_shared (refusal.Bench (bench.Redefined line)) five = absurd (three_five five)
is_shared (refusal.Bench (bench.Undefined line)) five = absurd (three_five five)
is_shared (refusal.Bench (bench.Cycle line)) five = absurd (three_five five)
is_shared (refusal.Bench bench.Empty) five = absurd (three_five five)
is_shared (refusal.Tests tests.Memory) five = absurd (two_five five)
is_shared (refusal.Tests (tests.BadByte line)) five = absurd (three_five five)
is_shared (refusal.Tests (tests.BadWidth line)) five = absurd (three_five five)
is_shared (refusal.Tests tests.TooMany) five = absurd (three_five five)
is_shared (refusal.Words words.Memory) five = absurd (two_five five)
is_shared (refusal.Words words.TooMany) five = absurd (three_five five)
is_shared (refusal.Words words.BadCount) five = absurd (three_five five)
is_shared (refusal.Words (words.IdleBits source)) five = absurd (three_five five)

-- so the handle isn't the only one, if words aren't taken
pub words_shared : (alone : Bool) (width count : ℕ) (ws : List ℕ) (r : Refusal)
    → IsWordsReply alone width count ws r → status_number r ≡ 5 → alone ≡ false
words_shared alone width count ws r is five =
    subst (IsWordsReply alone width count ws) (is_shared r five) is

next_fault : (old : List (List Bool)) (width count : ℕ) (ws : List ℕ) (f : WordsFault)
    → (f ≡ words.Memory) ⊎ (IsWordsRefusal width count ws f ⊎ AreTooMany old count f)
    → status_number (refusal.Words f) ≡ 3 → IsWordsRefusal width count ws f ⊎ AreTooMany old count f
next_fault old width count ws f (inl e) three =
    absurd (two_three (subst (λ (g : WordsFault). status_number (refusal.Words g) ≡ 3) e three))
next_fault old width count ws f (inr is) three = is

-- words that have an error whatever comes before them
pub words_or_many : (old : List (List Bool)) (width count : ℕ) (ws : List ℕ) (f : WordsFault)
    → (f ≡ words.Memory) ⊎ IsWordsRefusal width count ws f
    → (f ≡ words.Memory) ⊎ (IsWordsRefusal width count ws f ⊎ AreTooMany old count f)
words_or_many old width count ws f (inl e) = inl e
words_or_many old width count ws f (inr is) = inr (inl is)
