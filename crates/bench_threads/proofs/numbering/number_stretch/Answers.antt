use Rattle.std.proofs.Common.{◌≡◌, ◌∙◌, ap, arith, length, subst, sym}
use Rattle.std.proofs.lemmas.Option.{slice_get_read}
use Rattle.bench_net.specs.reader.Entries.{AreNamesFrom, AreNumberedLines, names_in}
use Rattle.bench_net.specs.reader.Parsed.{names_of}
use Rattle.bench_threads.{specs.Stretches.line_numbers_in, proofs.StretchLines.names_at}
use Rattle.bench_threads.proofs.numbering.number_stretch.Goals as goal

pub number_lines-requires-clause-own : goal.number_lines-requires-clause-own
number_lines-requires-clause-own c =
    let ns = names_of c.args.file.now.names.keys in
    let xs = c.args.file.now.stretches.items in
    let own = c.index-stretches-place.result in
    let value : c.as_slice-stated.result.now ≡ own.stated.items = c.as_slice-stated.ensures.value
    ∙ ap (λ x. x.stated.items) (sym c.index-stretches-place.is) in
    subst (λ l. AreNamesFrom ns c.names_before-first.result (names_in l)) (sym value)
    (names_at ns xs c.args.place c.names_before-first.result own (search arith) (grind arith)
    c.args.file.now.own (grind arith))

pub returns : goal.returns
returns c =
    let ns = names_of c.args.file.now.names.keys in
    let xs = c.args.file.now.stretches.items in
    let own = c.index-stretches-place.result in
    let value : c.as_slice-stated.result.now ≡ own.stated.items = c.as_slice-stated.ensures.value
    ∙ ap (λ x. x.stated.items) (sym c.index-stretches-place.is) in
    record {
      stretch = own;
      is = slice_get_read xs (length xs) c.args.place own (grind arith) (grind arith) (grind arith);
      numbered = subst (λ l. AreNumberedLines ns l c.in_ok-lines.lines.items)
          value c.in_ok-lines.ensures.numbered;
      at = c.in_ok-at.ensures ∙ ap line_numbers_in value;
    }
