use Rattle.std.proofs.Common.{◌+◌, ◌*◌}
use Rattle.test_threads.proofs.in_pieces.+fn-read_shares-join+arg3+read_shares.Given as goal

abbrev pub decreases-join+arg3 : goal.decreases-join+arg3
decreases-join+arg3 g l = 2 * l.threads

abbrev pub decreases-read_shares : goal.decreases-read_shares
decreases-read_shares g l = 2 * l.threads + 1
