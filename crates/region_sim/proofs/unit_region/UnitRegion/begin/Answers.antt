use Rattle.std.proofs.Common.{◌<◌, ◌≤◌, ◌∙◌, ℕ, arith, length, sym, subst, List, true, false, Bool}
use Rattle.std.proofs.{Common.{◌≡◌, refl}, lemmas.Bool.false≢true}
use Rattle.bench_net.specs.Scan.{names}
use Rattle.fault_model.specs.Solution.{Test}
use Rattle.wide_words.specs.Wide.{number}
use Rattle.region_sim.specs.{Pack.AreRows, Units.{AreKnownInUnit, CarryFlip}}
use Rattle.region_sim.proofs.UnitRegions.{carry_dead, carry_live, known_begun}
use Rattle.region_sim.proofs.unit_region.UnitRegion.begin.Goals as goal

pub returns-clause-region : goal.returns-clause-region
returns-clause-region c = λ layout good.
    let circuit = c.args.circuit.now.arranged in
    let stem = c.args.stem in
    let word = c.in_each_wide_lane-word.result in
    let own : (tests : List Test) (group : ℕ → ℕ) → AreRows circuit tests layout group good
    → CarryFlip circuit tests layout group stem stem (number word) = λ tests group rows.
    let go : (b : Bool) → c.is_live.result ≡ b
    → CarryFlip circuit tests layout group stem stem (number word) = elim [
      | true ↦ λ e. carry_live circuit tests layout group stem (number word)
          (λ k lt. c.in_each_wide_lane-word.ensures k lt ∙ e)
      | false ↦ λ e. carry_dead circuit tests layout group stem (number word)
          c.requires.circuit.well_formed (λ live. false≢true (sym e ∙ c.is_live.ensures.1 live))
    ] in go c.is_live.result refl in
    let low = c.requires.within in
    let wide = c.requires.room.known in
    let same = c.forget.ensures.room in
    let within : stem < length c.forget.new.self = omega (arith, low, wide, same) in
    let room : length (names circuit) ≤ length c.forget.new.self = omega (arith, wide, same) in
    record {
      known = subst (AreKnownInUnit circuit layout good stem) (sym c.keep.ensures)
          (known_begun c.forget.new.self stem word within circuit layout good room
          c.forget.ensures.none own);
      path = c.requires.room.path;
    }
