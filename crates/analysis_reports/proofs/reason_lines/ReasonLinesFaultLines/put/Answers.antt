use Rattle.std.{proofs.Common.{◌≤◌, subst, sym}, specs.Prelude.zip}
use Rattle.byte_output.proofs.Public.{writes_same}
use Rattle.analysis_reports.specs.Reasons.{reason_line}
use Rattle.threaded_lines.proofs.Public.{mapped_between, mapped_count}
use Rattle.analysis_reports.proofs.reason_lines.ReasonLinesFaultLines.put.Goals as goal

pub put_reason_lines-requires-clause-within : goal.put_reason_lines-requires-clause-within
put_reason_lines-requires-clause-within g c =
    let own = c.args.self.now in
    subst (λ n. c.args.end ≤ n) (mapped_count (reason_line own.circuit.now) own.list.now.list
    own.reasons.now own.counted) c.requires.within

pub returns : goal.returns
returns g c =
    let own = c.args.self.now in
    writes_same _ _ _ _ _ (sym (mapped_between (reason_line own.circuit.now)
    (zip own.list.now.list own.reasons.now) c.args.start c.args.end)) c.put_reason_lines.ensures
