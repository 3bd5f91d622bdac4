-- Laws of what goals keep.
use Rattle.std.proofs.Common.{◌≡◌, ◌<◌, ◌≤◌, inl, inr, ℕ, Bool, Option, Some, None, false}
use Rattle.std.proofs.Common.{refl, sym, ◌∙◌, arith}
use Rattle.std.proofs.lemmas.Bool.{cases_lt, false≢true}
use Rattle.region_sim.specs.Goals.{IsFirstHit, is_unknown}

-- a first hit stays the first one, whatever tests come later
pub first_stays : (kept : Option ℕ) (hits : ℕ → Bool) (low high more : ℕ)
    → is_unknown kept ≡ false → high ≤ more → IsFirstHit hits low high kept
    → IsFirstHit hits low more kept
first_stays (Some t) hits low high more known le h =
    let below = h.1 in (h.0, omega (arith, below, le), h.2, h.3)
first_stays None hits low high more known le h = absurd (false≢true (sym known))

-- if one is a first hit and the other none, they aren't of the same tests
pub first_agrees : (one other : Option ℕ) (hits : ℕ → Bool) (low high : ℕ)
    → IsFirstHit hits low high one → IsFirstHit hits low high other
    → is_unknown one ≡ is_unknown other
first_agrees None None hits low high a b = refl
first_agrees (Some t) (Some s) hits low high a b = refl
first_agrees (Some t) None hits low high a b = absurd (false≢true (sym (b t a.0 a.1) ∙ a.2))
first_agrees None (Some s) hits low high a b = absurd (false≢true (sym (a s b.0 b.1) ∙ b.2))

-- tests that are no hits change nothing
pub first_unchanged : (kept : Option ℕ) (hits : ℕ → Bool) (low high more : ℕ) → high ≤ more
    → ((t : ℕ) → high ≤ t → t < more → hits t ≡ false) → IsFirstHit hits low high kept
    → IsFirstHit hits low more kept
first_unchanged (Some t) hits low high more le none h =
    let below = h.1 in (h.0, omega (arith, below, le), h.2, h.3)
first_unchanged None hits low high more le none h = λ t above below. (elim (cases_lt t high) [
  | inl lt ↦ h t above lt
  | inr ge ↦ none t ge below
])
