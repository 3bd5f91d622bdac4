use Rattle.std.proofs.Common.{rules, ◌≡◌, length, subst}
use Rattle.block_sim.specs.Parts.{Parts}
use Rattle.faultsim_c.specs.Calls.{AreStemsOf}
use Rattle.faultsim_c.proofs.signals.fs_stems_of.Goals as goal

pub returns-clause-done : goal.returns-clause-done
returns-clause-done c parts is fits =
    let stems = c.stems_of-status.new.stems in
    let same : c.job.result.now ≡ parts = search rules in
    subst (λ (p : Parts). length c.args.stems.now ≡ length p.classes.representative
    → (c.stems_of-status.result ≡ 0) × AreStemsOf p stems) same c.stems_of-status.ensures.done fits
