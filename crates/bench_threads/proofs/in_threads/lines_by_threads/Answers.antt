use Rattle.std.{proofs.Common.{◌≢◌, subst, sym}, specs.Prelude.AllPairs}
use Rattle.bench_net.specs.{Stored.AreLinesOf, reader.Parsed.names_of}
use Rattle.bench_net.proofs.Public.{assembled, within_limits}
use Rattle.bench_threads.specs.Stretches.{joined}
use Rattle.bench_threads.proofs.in_threads.lines_by_threads.Goals as goal

pub returns : goal.returns
returns g c =
    let text = c.args.text.now in
    let file = c.in_ok-file.file in
    let ns = names_of file.names.keys in
    let all = joined file.stretches.items in
    let read = c.in_ok-file.ensures in
    let numbered = c.in_ok-numbered.ensures in
    subst (λ n. AreLinesOf text n c.in_ok-numbered.numbered.lines.items
    c.in_ok-numbered.numbered.at.items) (sym numbered.named)
    (assembled text all (within_limits text all read.stated c.requires read.few) ns
    c.in_ok-numbered.numbered.lines.items c.in_ok-numbered.numbered.at.items file.own
    (subst (AllPairs (λ m n. m ≢ n)) file.own read.once) numbered.numbered numbered.at)
