use Rattle.std.{proofs.Common.{◌∙◌, List, ℕ, ap, length}, specs.Int.div_ceil}
use Rattle.region_runs.proofs.stretches.Cut.new.Goals as goal

pub returns-clause-cut : goal.returns-clause-cut
returns-clause-cut c =
    let count = c.count_in.ensures.count ∙ ap (λ (l : List ℕ). length l) c.as_slice.ensures.value in
    record {
      from_within = c.requires.from;
      some = c.requires.stretches;
      size_is = c.div_ceil-size.ensures ∙ ap (λ n. div_ceil n c.args.stretches) count;
      few = c.requires.few;
      within = c.requires.within;
    }
