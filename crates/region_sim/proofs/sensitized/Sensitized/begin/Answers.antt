use Rattle.std.proofs.Common.{◌<◌, ◌≤◌, ◌∙◌, ℕ, arith, length, sym, subst, List}
use Rattle.std.{specs.Prelude.None, proofs.lemmas.Bool.false≢true}
use Rattle.bench_net.specs.Scan.{names}
use Rattle.fault_model.specs.Solution.{Test}
use Rattle.region_sim.specs.Sensitized.{AreKnownFlips, CarriesFlip}
use Rattle.region_sim.proofs.SensitizedLanes.{carried_dead, carried_live, flips_begun}
use Rattle.region_sim.proofs.sensitized.Sensitized.begin.Goals.{then-is_live, else-is_live}
use Rattle.flat_circuit.specs.Words.{AreWords}
use Rattle.region_sim.proofs.sensitized.Sensitized.begin.Goals as goal

pub returns-clause-sensitized : goal.returns-clause-sensitized
returns-clause-sensitized c =
    let circuit = c.args.view.circuit.now.arranged in
    let mask = c.args.view.lanes in
    let stem = c.args.stem in
    let word = c.if-is_live.word in
    let own : (tests : List Test) (group : ℕ)
    → AreWords circuit tests group None c.args.view.good.now
    → CarriesFlip circuit tests group mask stem stem word = λ tests group words.
    elim c.if-is_live.branch [
      | then-is_live w ↦ subst (CarriesFlip circuit tests group mask stem stem) (sym w.word-is)
          (carried_live circuit tests group mask stem)
      | else-is_live w ↦ subst (CarriesFlip circuit tests group mask stem stem) (sym w.word-is)
          (carried_dead circuit tests group mask stem c.requires.view.circuit.well_formed
          (λ live. false≢true (sym w.if-is_live.false ∙ c.is_live.ensures.1 live)))
    ] in
    let low = c.requires.within in
    let wide = c.requires.room.known in
    let same = c.forget.ensures.room in
    let within : stem < length c.forget.new.self = omega (arith, low, wide, same) in
    let room : length (names circuit) ≤ length c.forget.new.self = omega (arith, wide, same) in
    record {
      known = subst (AreKnownFlips circuit c.args.view.good.now mask stem) (sym c.keep.ensures)
          (flips_begun c.forget.new.self stem word within circuit c.args.view.good.now mask room
          c.forget.ensures.none own);
      path = c.requires.room.path;
    }
