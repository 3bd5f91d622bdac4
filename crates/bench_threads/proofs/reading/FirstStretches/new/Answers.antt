use Rattle.std.proofs.Common.{[], rules, subst, sym}
use Rattle.text_lines.specs.Lines.{lines}
use Rattle.bench_net.specs.reader.Entries.{AreStated, entries_of}
use Rattle.bench_threads.{specs.Stretches.joined, proofs.StretchLines.stated_none}
use Rattle.bench_threads.proofs.reading.FirstStretches.new.Goals as goal

pub returns-clause-first : goal.returns-clause-first
returns-clause-first c = record {
  start = search rules;
  stated = subst (λ l. AreStated (lines []) (entries_of (joined l))) (sym c.new.ensures.items)
      (stated_none 1);
  counted = search rules;
  numbers = search rules;
  few = search rules;
  names = search rules;
  once = search rules;
}
