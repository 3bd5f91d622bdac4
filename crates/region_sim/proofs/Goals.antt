-- What goals keep of a class after the tests of a word more.
use Rattle.std.proofs.Common.{◌≡◌, ◌<◌, ◌≤◌, ◌+◌, ◌-◌, ◌⊎◌, inl, inr, ℕ, Bool, true, false, Option}
use Rattle.std.{proofs.Common.{Some, None, refl, sym, ◌∙◌, ap, arith}, specs.Option.is_some}
use Rattle.std.proofs.lemmas.Bool.{cases_lt, false≢true}
use Rattle.region_sim.{proofs.OneLane.bit_cases, specs.Goals.{IsFirstHit, TellHits}}
use Rattle.flat_circuit.specs.Words.{lane}

module _ (hits : ℕ → Bool) (first low from to word : ℕ) (le : low ≤ from)
    (tells : TellHits false hits first from to word) where
  -- the first lane is the first hit, if there was none before
  pub first_taken : (k : ℕ) → k < 128 → lane word k ≡ true
      → ((j : ℕ) → j < k → lane word j ≡ false) → IsFirstHit hits low from None
      → IsFirstHit hits low to (Some (first + k))
  first_taken k lt on least none =
      let r = tells.right k lt on in
      let at = r.0 in (
        omega (arith, le, at),
        r.1,
        r.2,
        λ earlier above below. go earlier above below (cases_lt earlier from),
      )
    where
      go : (earlier : ℕ) → low ≤ earlier → earlier < first + k
          → (earlier < from) ⊎ (from ≤ earlier) → hits earlier ≡ false
      go earlier above below (inl before) = none earlier above before
      go earlier above below (inr after) = by (bit_cases (hits earlier))
        where
          by : (hits earlier ≡ true) ⊎ (hits earlier ≡ false) → hits earlier ≡ false
          by (inr off) = off
          by (inl hit) =
              let start = tells.low in
              let j = earlier - first in
              let same : first + j ≡ earlier = omega (arith, after, start) in
              let end = (tells.right k lt on).1 in
              let low_j : j < k = omega (arith, same, below) in
              let lit = tells.whole j (omega (arith, same, after)) (omega (arith, same, below, end))
              (ap hits same ∙ hit) (inr (λ i under. least i (omega (arith, under, low_j)))) in
              absurd (false≢true (sym (least j low_j) ∙ lit))

  -- without a lane there is no hit
  pub none_taken : ((k : ℕ) → lane word k ≡ false) → IsFirstHit hits low from None
      → IsFirstHit hits low to None
  none_taken off none t above below = go (cases_lt t from)
    where
      go : (t < from) ⊎ (from ≤ t) → hits t ≡ false
      go (inl before) = none t above before
      go (inr after) = by (bit_cases (hits t))
        where
          by : (hits t ≡ true) ⊎ (hits t ≡ false) → hits t ≡ false
          by (inr is) = is
          by (inl hit) =
              let start = tells.low in
              let j = t - first in
              let same : first + j ≡ t = omega (arith, after, start) in
              let lit = tells.whole j (omega (arith, same, after)) (omega (arith, same, below))
              (ap hits same ∙ hit) (inr (λ i under. off i)) in
              absurd (false≢true (sym (off j) ∙ lit))

  -- a first hit stays
  pub first_stays : (kept : Option ℕ) → is_some kept ≡ true → IsFirstHit hits low from kept
      → IsFirstHit hits low to kept
  first_stays (Some t) is h =
      let below = h.1 in
      let up = tells.ordered in (h.0, omega (arith, below, up), h.2, h.3)
  first_stays None is h = absurd (false≢true is)

-- what is none
pub unknown : (hits : ℕ → Bool) (low high : ℕ) (kept : Option ℕ) → is_some kept ≡ false
    → IsFirstHit hits low high kept → IsFirstHit hits low high None
unknown hits low high (Some t) is h = absurd (false≢true (sym is))
unknown hits low high None is h = h

pub none_is : (kept : Option ℕ) → is_some kept ≡ false → kept ≡ None
none_is (Some t) is = absurd (false≢true (sym is))
none_is None is = refl
