use Rattle.std.proofs.Common.{◌≡◌, ◌∙◌, ℕ, sym, arith}
use Rattle.faultsim_c.proofs.fs_firsts.Goals as goal

no_memory : (n : ℕ) → n ≡ 0 → n ≡ 2 → ⊥
no_memory n zero two = omega (arith, zero, two)

pub returns-in-Ok-clause-done : goal.returns-in-Ok-clause-done
returns-in-Ok-clause-done c zero =
    let faults = c.firsts_in.ensures.faults (no_memory c.firsts_in.result zero) in (
      c.in-Some.model,
      c.in-Ok.session,
      c.in-Some.ensures.some,
      c.in-Ok.ensures.read,
      (c.firsts_in.ensures.done zero).0,
      faults,
      (c.firsts_in.ensures.done zero).1 ∙ sym faults,
    )
