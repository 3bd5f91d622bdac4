-- The lanes of a group, once a word of it or of another group was taken.
use Rattle.std.proofs.Common.{◌≡◌, ◌≢◌, ◌<◌, ◌≤◌, ◌+◌, ◌*◌, ◌⊎◌, ◌||◌, inl, inr, ℕ, Bool, true}
use Rattle.std.proofs.Common.{false, List, refl, sym, ◌∙◌, subst, length, arith}
use Rattle.std.{specs.Prelude.{Some, bit_or, slice_get}, proofs.lemmas.Bool.{cases_lt, false≢true}}
use Rattle.list_lemmas.proofs.Places.{place_within}
use Rattle.flat_circuit.{proofs.Public.{lane_or, lane_zero}, specs.Words.lane}
use Rattle.flat_circuit.specs.declared.block_span.BlockSpan.{BlockSpan}
use Rattle.flat_circuit.specs.declared.origin.ListedClass.{ListedClass}
use Rattle.block_sim.{proofs.Public.which_detect, specs.Listed.IsListed}
use Rattle.block_sim.specs.Parts.{BelongTogether, Parts}
use Rattle.region_sim.specs.Goals.{HaveTaken, TellHits}
use Rattle.n_detect.specs.ListLanes.{AreLanesIn, HaveGroupLanes}

either : (a b : Bool) → (a || b) ≡ true → (a ≡ true) ⊎ (b ≡ true)
either true b e = inl refl
either false b e = inr e

first_on : (a b : Bool) → a ≡ true → (a || b) ≡ true
first_on true b e = refl
first_on false b e = absurd (false≢true e)

second_on : (a b : Bool) → b ≡ true → (a || b) ≡ true
second_on true b e = refl
second_on false b e = e

module _ (group : ℕ) (hits : ℕ → Bool) (low from to : ℕ) (le : low ≤ from) where
  -- a word of the group
  pub lanes_more : (old word : ℕ) → TellHits true hits (128 * group) from to word
      → AreLanesIn group hits low from old → AreLanesIn group hits low to (bit_or old word)
  lanes_more old word tells was k lt = (
    λ on. there (either (lane old k) (lane word k) (sym (lane_or old word k) ∙ on)),
    λ h. lane_or old word k ∙ back h (cases_lt (128 * group + k) from),
  )
    where
      there : (lane old k ≡ true) ⊎ (lane word k ≡ true)
          → (low ≤ 128 * group + k) × (128 * group + k < to) × (hits (128 * group + k) ≡ true)
      there (inl on) =
          let h = (was k lt).0 on in
          let below = h.1 in
          let up = tells.ordered in (h.0, omega (arith, below, up), h.2)
      there (inr on) =
          let r = tells.right k lt on in
          let above = r.0 in (omega (arith, le, above), r.1, r.2)

      back : (low ≤ 128 * group + k) × (128 * group + k < to) × (hits (128 * group + k) ≡ true)
          → (128 * group + k < from) ⊎ (from ≤ 128 * group + k) → (lane old k || lane word k) ≡ true
      back h (inl before) = first_on (lane old k) (lane word k) ((was k lt).1 (h.0, before, h.2))
      back h (inr after) =
          second_on (lane old k) (lane word k) (tells.whole k after h.1 h.2 (inl refl))

  -- a word of another group
  pub lanes_same : (other old word : ℕ) → other ≢ group
      → TellHits true hits (128 * other) from to word
      → AreLanesIn group hits low from old → AreLanesIn group hits low to old
  lanes_same other old word ne tells was k lt = (
    λ on. (let h = (was k lt).0 on in
        let below = h.1 in
        let up = tells.ordered in (h.0, omega (arith, below, up), h.2)),
    λ h. (let start = tells.low in
        let end = tells.high in
        let up = tells.ordered in
        let below = h.1 in
        (was k lt).1 (h.0, omega (arith, start, end, up, below, ne, lt), h.2)),
  )

-- no lane is there before the first test
pub lanes_none : (group low : ℕ) (hits : ℕ → Bool) → AreLanesIn group hits low low 0
lanes_none group low hits k lt = (
  λ on. absurd (false≢true (sym (lane_zero k) ∙ on)),
  λ h. (let up = h.0 in let below = h.1 in absurd (omega (arith, up, below))),
)

-- of all blocks of a group the lanes are those of the group
pub group_lanes : (job : Parts) → BelongTogether job → (group : ℕ) (span : BlockSpan)
    (rows : List ListedClass) (before words : List ℕ) → span.first ≡ 2 * group
    → ((k : ℕ) → k < 128 → 128 * group + k < length job.tests.tests
    → 128 * group + k < 64 * span.last + 64)
    → ((place : ℕ) (row : ListedClass) → slice_get rows place ≡ Some row → IsListed job row)
    → ((place n : ℕ) → slice_get before place ≡ Some n → n ≡ 0)
    → HaveTaken (AreLanesIn group) job span rows 0 (length rows) before words
    → HaveGroupLanes job group rows 0 (length rows) words
group_lanes job b group span rows before words first whole listed zero taken place row le lt at =
    let t = taken place row le lt at in
    let own = listed place row at in
    let r = own.stands in
    let which = which_detect job.list.model job.circuit job.tests.tests row.class r.0
    b.circuit.well_formed r.1 in
    let hits = which.0 in
    let none = zero place t.0 t.2 in
    let lanes = t.4 hits (64 * span.first) (r.0, r.1, which.1) (omega arith)
    (subst (AreLanesIn group hits (64 * span.first) (64 * span.first)) (sym none)
    (lanes_none group (64 * span.first) hits)) in (
      t.1,
      t.3,
      (
        r.0,
        r.1,
        λ k low. (
          λ on. (which.1 (128 * group + k)).0 ((lanes k low).0 on).2,
          λ d. (lanes k low).1 (
            omega (arith, first),
            whole k low (place_within job.tests.tests (128 * group + k) d.0 d.1),
            (which.1 (128 * group + k)).1 d,
          ),
        ),
      ),
    )
