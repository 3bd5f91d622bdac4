use Rattle.std.proofs.Common.{List, [], ◌∷◌, ◌++◌, take, get_or, sym, ap, ◌∙◌}
use Rattle.std.proofs.lemmas.List.{take_more}
use Rattle.fault_ledger.specs.{declared.Call.TheVariants.Claim, declared.Reply.Reply, Face.face}
use Rattle.fault_ledger.{specs.Answer.{replies, after_all}, proofs.LegalHistories.never_first}
use Rattle.fault_ledger.proofs.{LeastTests.settles_at_least, CallSequences.legal-after_all}
use Rattle.fault_ledger.proofs.CallSequences.{reply-at, after_all-more, replies-more}
use Rattle.fault_ledger.proofs.calls.replay.Goals as goal

pub loop-call-init : goal.loop-call-init
loop-call-init c =
    record { faced = c.in_ok-ledger.ensures.face; replied = c.in_ok-replies.ensures.items }

pub loop-call-preserved : goal.loop-call-preserved
loop-call-preserved c =
    let s = c.args.shape in
    let done = take c.loop-call.call-index c.args.calls.now in
    let next = get_or c.args.calls.now c.loop-call.call-index (Claim 0) in
    let more = take_more c.args.calls.now c.loop-call.call-index (Claim 0) c.loop-call-test.true in
    let r = reply-at s c.loop-call.ledger c.reply_to.new.ledger
    (after_all s [] done) next c.reply_to.result c.reply_to.ensures
    (legal-after_all s [] done tt) c.loop-call.invariant.faced in
    record {
      faced = r.1 ∙ ap (face s) (sym (ap (after_all s []) more ∙ after_all-more s [] done next));
      replied = c.in_ok-push.ensures.items
          ∙ ap (λ (xs : List Reply). xs ++ c.reply_to.result ∷ []) c.loop-call.invariant.replied
          ∙ ap (λ (x : Reply). replies s [] done ++ x ∷ []) r.0
          ∙ sym (ap (replies s []) more ∙ replies-more s [] done next);
    }

pub returns-clause-legal : goal.returns-clause-legal
returns-clause-legal c = legal-after_all c.args.shape [] c.args.calls.now tt

pub returns-clause-least : goal.returns-clause-least
returns-clause-least c = λ table true_to.
    settles_at_least c.args.shape table (after_all c.args.shape [] c.args.calls.now) true_to

pub returns-clause-skipped : goal.returns-clause-skipped
returns-clause-skipped c = never_first c.args.shape (after_all c.args.shape [] c.args.calls.now)
    (legal-after_all c.args.shape [] c.args.calls.now tt)
