use Rattle.std.proofs.Common.{◌≡◌, ◌⊎◌, ◌<◌, ◌≤◌, ◌+◌, ◌-◌, ◌*◌, ◌/◌, arith, inl, inr}
use Rattle.std.proofs.{lemmas.Bool.cases_lt, Math.Nat.{mul-div-le, mul-le-mul}}
use Rattle.region_runs.proofs.windows.window_blocks.Goals as goal

pub returns-clause-fit : goal.returns-clause-fit
returns-clause-fit c = go (cases_lt c.clamp.result 2)
  where
    go : (c.clamp.result < 2) ⊎ (2 ≤ c.clamp.result) → (2 * c.clamp.result - 1 ≡ 1)
        ⊎ (8 * c.args.signals * (2 * c.clamp.result - 1 + 1) ≤ 268435456)
    go (inl one) = inl (omega (arith, one, c.clamp.ensures))
    go (inr more) =
        let groups = 16777216 / c.max.result in
        let whole = mul-div-le 16777216 c.max.result in
        let few : c.clamp.result ≤ groups = omega (arith, more, c.clamp.ensures) in
        let most : c.args.signals ≤ c.max.result = omega (arith, c.max.ensures) in
        let product = mul-le-mul most few in
        let twice : 2 * c.clamp.result - 1 + 1 ≡ 2 * c.clamp.result = omega (arith, more) in
        let bytes : 8 * c.args.signals * (2 * c.clamp.result)
        ≡ 16 * (c.args.signals * c.clamp.result) = grind arith in
        inr (rw twice (omega (arith, bytes, product, whole)))
