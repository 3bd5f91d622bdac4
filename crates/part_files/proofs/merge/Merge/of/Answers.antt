use Rattle.part_files.proofs.merge.Merge.of.Goals as goal

pub returns-clause-merged : goal.returns-clause-merged
returns-clause-merged c = record {
  part = c.in_ok-part.ensures.read;
  seen = c.in_ok-seen.ensures.items_if_clones_equal (λ y same. same);
}
