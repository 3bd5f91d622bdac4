use Rattle.std.{proofs.Common.{◌≡◌, ◌^◌, sym, ◌∙◌, arith, lit<, ap}, specs.Prelude.decimal}
use Rattle.std.proofs.lemmas.Fmt.{parse-decimal}
use Rattle.part_files.proofs.PartWords.{not_utf8, differs}
use Rattle.part_files.proofs.part_reader.number_of.Goals as goal

pub returns-in_default : goal.returns-in_default
returns-in_default c = λ n small e. not_utf8 _ n small e c.in_default.ensures.cases.0

pub returns-in_default-parse : goal.returns-in_default-parse
returns-in_default-parse c = λ n small e.
    c.in_default-parse.not-Ok n (parse-decimal 32 n _ _ small (omega (
      arith,
      small,
      lit< {m = 2 ^ 32} {n = 2 ^ 64} tt,
    )) (c.in-Ok.ensures.cases.0 ∙ e) c.parse.ensures.value.0)

pub returns-else-eq : goal.returns-else-eq
returns-else-eq c = λ n small e.
    let parsed = parse-decimal 32 n _ _ small (omega (
      arith,
      small,
      lit< {m = 2 ^ 32} {n = 2 ^ 64} tt,
    )) (c.in-Ok.ensures.cases.0 ∙ e) c.parse.ensures.value.0 in
    let same : c.in-Ok-parse.number ≡ n = cc (sym c.in-Ok-parse.is ∙ parsed) in
    differs _ _ (c.format.ensures.text ∙ (ap decimal same ∙ (sym e ∙ sym c.in-Ok.ensures.cases.0)))
    (sym c.eq.ensures ∙ c.if-eq.false)
