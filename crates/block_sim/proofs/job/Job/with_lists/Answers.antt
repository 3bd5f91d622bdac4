use Rattle.block_sim.proofs.PartsOfJobs.{whole}
use Rattle.block_sim.proofs.job.Job.with_lists.Goals as goal

pub invariant_of-result : goal.invariant_of-result
invariant_of-result c =
    let lists = c.requires.lists in
    whole c.in_ok-parts.ensures.ok (record {
      together = record {
        circuit = c.signals-signals.ensures.given;
        list = lists.list;
        classes = lists.classes;
        tests = c.requires.tests;
        width = c.requires.width;
      };
      count = c.requires.count;
      fault_free = c.requires.rows;
      stem_count = lists.stem_count;
      stems = lists.stems;
      nexts = lists.nexts;
      next_within = lists.next_within;
      stuck_count = lists.stuck_count;
      stucks_are = lists.stucks_are;
    })
