use Rattle.std.proofs.Common.{rules, ◌≡◌, length, subst}
use Rattle.bench_net.specs.Scan.{names}
use Rattle.block_sim.specs.Parts.{Parts}
use Rattle.faultsim_c.specs.Circuits.{AreLevelsOf}
use Rattle.faultsim_c.proofs.circuit.fs_levels_of.Goals as goal

pub returns-clause-done : goal.returns-clause-done
returns-clause-done c parts is fits =
    let levels = c.levels_in-status.new.levels in
    let same : c.job.result.now ≡ parts = search rules in
    subst (λ (p : Parts). length c.args.levels.now ≡ length (names p.circuit)
    → (c.levels_in-status.result ≡ 0) × AreLevelsOf p.circuit levels) same
    c.levels_in-status.ensures.done fits
