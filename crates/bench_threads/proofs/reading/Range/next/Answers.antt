use Rattle.std.{proofs.Common.{◌+◌, ◌∙◌, ap, arith, sym, take}, specs.Prelude.count_by}
use Rattle.text_lines.specs.Lines.{ends_line}
use Rattle.bench_threads.proofs.StretchLines.{feeds_up_to}
use Rattle.bench_threads.proofs.reading.Range.next.Goals as goal

pub returns : goal.returns
returns c = record {
  order = omega (arith, c.line_start_from-end.ensures.later);
  until = c.line_start_from-end.ensures.is;
  count = ap (λ n. n + c.count_line_feeds-own.result) c.requires.count
      ∙ ap (λ n. count_by ends_line (take c.args.self.start c.args.text.now) + n)
      c.count_line_feeds-own.ensures.count
      ∙ sym (feeds_up_to c.args.text.now c.args.self.start c.args.self.end c.requires.order);
}
