use Rattle.std.proofs.Common.{◌≡◌, ◌++◌, ◌∙◌, ap, arith, length, rules, subst, sym, take}
use Rattle.std.proofs.lemmas.List.Elements.{All-push}
use Rattle.text_lines.specs.Lines.{lines}
use Rattle.bench_net.specs.reader.Entries.{AreFew, AreStated, entries_of, names_in, reads_in}
use Rattle.bench_threads.specs.Stretches.{AreCounted, AreStatedBetween, HasStretch, IsCounted}
use Rattle.bench_threads.{specs.Stretches.joined, proofs.StretchLines.stated_more}
use Rattle.bench_threads.proofs.StretchLines.{joined_push, names_append, names_grown, reads_grown}
use Rattle.bench_threads.proofs.reading.FirstStretches.with.Goals as goal

pub returns-clause-first : goal.returns-clause-first
returns-clause-first c =
    let was = c.requires.first in
    let stretch = c.in_ok-stretch.stretch in
    let text = c.args.self.text.now in
    let all = c.args.self.stretches.items in
    let stated = stretch.stated.items in
    let own : AreStatedBetween text stretch.start stretch.end stated × IsCounted stretch =
    subst (HasStretch text) c.in_ok-stretch.was c.requires.part in
    let here : stretch.start ≡ c.args.self.end = omega arith in
    let between : AreStatedBetween text c.args.self.end stretch.end stated =
    subst (λ n. AreStatedBetween text n stretch.end stated) here own.0 in
    let pushed = c.in_ok-push.ensures.items in
    let grown = ap joined pushed ∙ joined_push all stretch in
    let names = ap (λ l. length (names_in l)) grown ∙ names_grown (joined all) stated in
    let reads = ap (λ l. length (reads_in l)) grown ∙ reads_grown (joined all) stated in
    let few : AreFew c.plus-counts.result.signals c.plus-counts.result.sinks = search rules in
    record {
      start = between.until;
      stated = subst (λ l. AreStated (lines (take stretch.end text)) (entries_of l)) (sym grown)
          (stated_more text c.args.self.end stretch.end (joined all) stated was.start was.stated
          between);
      counted = subst AreCounted (sym pushed) (All-push IsCounted all stretch was.counted own.1);
      numbers = (
        omega (arith, names, was.numbers, own.1, c.plus-counts.ensures.signals),
        omega (arith, reads, was.numbers, own.1, c.plus-counts.ensures.sinks),
      );
      few = (
        omega (arith, names, few, was.numbers, own.1, c.plus-counts.ensures.signals),
        omega (arith, reads, few, was.numbers, own.1, c.plus-counts.ensures.sinks),
      );
      names = c.in_ok-add_names.ensures.names
          ∙ ap (λ l. l ++ names_in c.as_slice.result.now) was.names
          ∙ ap (λ l. names_in (joined all) ++ names_in l) c.as_slice.ensures.value
          ∙ sym (names_append (joined all) stated) ∙ sym (ap names_in grown);
      once = c.in_ok-add_names.ensures.once;
    }
