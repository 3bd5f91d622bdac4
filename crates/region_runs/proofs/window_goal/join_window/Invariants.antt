use Rattle.region_runs.proofs.Joins.{AreJoinedUpTo}
use Rattle.region_runs.proofs.window_goal.join_window.Given as goal

abbrev pub invariant-loop-place : goal.invariant-loop-place
invariant-loop-place g l = AreJoinedUpTo (g.A.Goal.wants l.goal) (g.A.Goal.means l.goal) l.start
    l.fn.kept l.found l.kept l.place l.next
