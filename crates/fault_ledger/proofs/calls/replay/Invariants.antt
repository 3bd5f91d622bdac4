use Rattle.std.proofs.Common.{◌≡◌, [], take}
use Rattle.fault_ledger.specs.{Answer.{replies, after_all}, Face.face}
use Rattle.fault_ledger.proofs.calls.replay.Given as goal

abbrev pub invariant-loop-call : goal.invariant-loop-call
invariant-loop-call l = record {
  faced : l.ledger ≡ face l.fn.shape (after_all l.fn.shape [] (take l.call-index l.calls));
  replied : l.replies.items ≡ replies l.fn.shape [] (take l.call-index l.calls);
}
