use Rattle.std.{proofs.Common.{◌≤◌, subst, sym}, specs.Prelude.zip}
use Rattle.byte_output.proofs.Public.{writes_same}
use Rattle.report.specs.Report.{wanted_line}
use Rattle.threaded_lines.proofs.Public.{mapped_between, mapped_count}
use Rattle.report.proofs.fault_lines.FirstLinesFaultLines.put.Goals as goal

pub put_lines-requires-clause-within : goal.put_lines-requires-clause-within
put_lines-requires-clause-within g c =
    let own = c.args.self.now in
    subst (λ n. c.args.end ≤ n) (mapped_count (wanted_line own.lines own.circuit.now)
    own.list.now.list own.verdicts.now.firsts own.counted) c.requires.within

pub returns : goal.returns
returns g c =
    let own = c.args.self.now in
    writes_same _ _ _ _ _ (sym (mapped_between (wanted_line own.lines own.circuit.now)
    (zip own.list.now.list own.verdicts.now.firsts) c.args.start c.args.end)) c.put_lines.ensures
