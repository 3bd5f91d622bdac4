use Rattle.std.proofs.Common.{◌≡◌, ◌∙◌, ap, length, subst, sym}
use Rattle.patterns.specs.Tests.{blocks}
use Rattle.block_sim.specs.Parts.{Parts}
use Rattle.region_runs.specs.{RunJobs.{RunView, whole_of}, Windows.IsWindowFor}
use Rattle.region_runs.proofs.ReadWords.{whole_window}
use Rattle.region_runs.proofs.run_job.RunJob.read_words.Goals as goal

pub read-requires : goal.read-requires
read-requires g c =
    let job = c.self.inside.job in
    let all = c.args.self.now.whole in
    let same : job ≡ all = ap (whole_of job) (sym c.in-None.is)
    ∙ ap (λ (r : RunView). r.whole) c.self.view_is in
    let end = blocks (length all.tests.tests) in (
      all,
      0,
      0,
      end,
      subst (λ (j : Parts). IsWindowFor all 0 0 end j) (sym same) (whole_window all),
      c.requires,
    )

pub returns-in-None-clause-gathered : goal.returns-in-None-clause-gathered
returns-in-None-clause-gathered g c =
    let job = c.self.inside.job in
    let all = c.args.self.now.whole in
    let same : job ≡ all = ap (whole_of job) (sym c.in-None.is)
    ∙ ap (λ (r : RunView). r.whole) c.self.view_is in
    let end = blocks (length all.tests.tests) in
    c.read.ensures all 0 0 end
    (subst (λ (j : Parts). IsWindowFor all 0 0 end j) (sym same) (whole_window all)) c.requires
