-- Laws of last hits.
use Rattle.std.proofs.Common.{◌≡◌, ◌<◌, ◌≤◌, inl, inr, ℕ, Bool, Option, Some, None, true, false}
use Rattle.std.proofs.Common.{sym, arith}
use Rattle.std.proofs.lemmas.Bool.{cases_lt, false≢true}
use Rattle.compaction.specs.LastHits.{IsLastHit}

-- tests that are no hits change nothing
pub last_unchanged : (kept : Option ℕ) (hits : ℕ → Bool) (low high more : ℕ) → high ≤ more
    → ((t : ℕ) → high ≤ t → t < more → hits t ≡ false) → IsLastHit hits low high kept
    → IsLastHit hits low more kept
last_unchanged None hits low high more le none h = λ t above below. elim (cases_lt t high) [
  | inl lt ↦ h t above lt
  | inr ge ↦ none t ge below
]
last_unchanged (Some s) hits low high more le none h =
    let end = h.1 in (
      h.0,
      omega (arith, end, le),
      h.2,
      λ later after below. (elim (cases_lt later high) [
        | inl lt ↦ h.3 later after lt
        | inr ge ↦ none later ge below
      ]),
    )

-- what is always wanted is never not wanted
pub always_wanted : {A : Type 0} → true ≡ false → A
always_wanted off = absurd (false≢true (sym off))
