use Rattle.std.proofs.Common.{[], ◌∷◌, ◌∙◌, ap, arith, length, subst, sym}
use Rattle.std.proofs.lemmas.List.{length-append}
use Rattle.undetected.proofs.KnownReasons.{AreKnown, known_more}
use Rattle.undetected.proofs.finding.reasons_by.Goals as goal

pub loop-fault-preserved : goal.loop-fault-preserved
loop-fault-preserved c =
    let job = c.args.run.now.whole in
    let firsts = c.args.verdicts.now.firsts in
    let before = c.loop-fault.reasons.items in
    let own = c.reason_at.result in
    let items = c.in_ok-push.ensures.items in
    let count = c.loop-fault.invariant.count in
    let more = length-append before (own ∷ []) in
    record {
      count = ap length items ∙ omega (arith, count, more);
      known = subst (AreKnown job firsts) (sym items)
          (known_more job firsts before c.loop-fault.fault own count c.loop-fault.invariant.known
          c.reason_at.ensures);
    }
