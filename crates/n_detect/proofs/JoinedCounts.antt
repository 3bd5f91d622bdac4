-- Counts of the hits before a window and of those in it.
use Rattle.std.proofs.Common.{◌≡◌, ◌<◌, ◌≤◌, ◌+◌, ◌-◌, ◌∙◌, ℕ, zero, suc, Bool, ap, arith, cond}
use Rattle.std.{proofs.Common.{min, refl, sym}, specs.Prelude.count_by}
use Rattle.patterns.specs.Least.{from_up}
use Rattle.n_detect.specs.{CountLaws.{count_more, count_parts}, HitCounts.IsHitCount}

-- the same numbers have a property, counted from another one on
count_moved : (own hits : ℕ → Bool) (start a n : ℕ)
    → ((j : ℕ) → j < n → own (a + j) ≡ hits (start + (a + j)))
    → count_by own (from_up a n) ≡ count_by hits (from_up (start + a) n)
count_moved own hits start a zero same = refl
count_moved own hits start a (suc n) same =
    let here : a ≡ a + 0 = omega arith in
    let there : start + (a + 0) ≡ start + a = omega arith in
    let first : own a ≡ hits (start + a) = ap own here ∙ (same 0 (omega arith) ∙ ap hits there) in
    let number : Bool → ℕ = λ b. cond b 1 0 in
    let one : number (own a) ≡ number (hits (start + a)) = ap number first in
    let rest = count_moved own hits start (a + 1) n (λ j lt.
    let next : (a + 1) + j ≡ a + suc j = omega arith in
    ap own next ∙ (same (suc j) (omega (arith, lt)) ∙ ap (λ k. hits (start + k)) (sym next))) in
    let behind : start + (a + 1) ≡ (start + a) + 1 = omega arith in
    let later = ap (λ b. count_by hits (from_up b n)) behind in
    let left = count_more own a n in
    let right = count_more hits (start + a) n in
    omega (arith, one, rest, later, left, right)

-- both together are the count of all
pub count_joined : (most start old later new low mid high : ℕ) (hits own : ℕ → Bool)
    → low ≤ start + mid → mid ≤ high → ((t : ℕ) → mid ≤ t → t < high → own t ≡ hits (start + t))
    → IsHitCount most hits low (start + mid) old → IsHitCount most own mid high later
    → new ≡ min most (old + later) → IsHitCount most hits low (start + high) new
count_joined most start old later new low mid high hits own le up same was found is =
    let parts : (start + high) - low ≡ ((start + mid) - low) + (high - mid) =
    omega (arith, le, up) in
    let both = count_parts hits low ((start + mid) - low) (high - mid) in
    let at : low + ((start + mid) - low) ≡ start + mid = omega (arith, le) in
    let behind = ap (λ b. count_by hits (from_up b (high - mid))) at in
    let moved = count_moved own hits start mid (high - mid) (λ j lt.
    same (mid + j) (omega arith) (omega (arith, lt))) in
    let whole = ap (λ k. count_by hits (from_up low k)) parts in
    omega (arith, is, was, found, both, behind, moved, whole)
