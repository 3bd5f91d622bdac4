use Rattle.std.{specs.Prelude.codes, proofs.Common.{◌≢◌, ap, arith, length, sym, ◌∙◌, subst}}
use Rattle.std.proofs.lemmas.{Bool.{eqb-false, eqb-true}, List.append_cancel_left}
use Rattle.part_files.{specs.Cut.Lacks, proofs.CutTexts.lacks_not, proofs.PartWords.words_read}
use Rattle.part_files.proofs.PartWords.{rule_on, bench_on, after_model, after_rule, after_bench}
use Rattle.part_files.proofs.part_reader.words_of.Goals as goal

pub returns-in_err-model : goal.returns-in_err-model
returns-in_err-model c = rw c.from_residual.ensures (λ w ok e. c.in_err-model.ensures w.model
    (rule_on w) ok.model.some ok.model.no_space e)

pub returns-in_err-rule : goal.returns-in_err-rule
returns-in_err-rule c = rw c.from_residual-in_err-rule.ensures (λ w ok e.
    let rest = after_model w _ _ _ ok e c.in_ok-model.ensures.1 c.in_ok-model.ensures.2 in
    c.in_err-rule.ensures w.rule (bench_on w) ok.rule.some ok.rule.no_space rest)

pub returns-in_err-bench : goal.returns-in_err-bench
returns-in_err-bench c = rw c.from_residual-in_err-bench.ensures (λ w ok e.
    let rest = after_model w _ _ _ ok e c.in_ok-model.ensures.1 c.in_ok-model.ensures.2 in
    let more = after_rule w _ _ _ ok rest c.in_ok-rule.ensures.1 c.in_ok-rule.ensures.2 in
    c.in_err-bench.ensures w.bench _ ok.bench.some ok.bench.no_space more)

pub returns-in_err-tests : goal.returns-in_err-tests
returns-in_err-tests c = rw c.from_residual-in_err-tests.ensures (λ w ok e.
    let rest = after_model w _ _ _ ok e c.in_ok-model.ensures.1 c.in_ok-model.ensures.2 in
    let more = after_rule w _ _ _ ok rest c.in_ok-rule.ensures.1 c.in_ok-rule.ensures.2 in
    c.in_err-tests.ensures w.tests
    (after_bench w _ _ _ ok more c.in_ok-bench.ensures.1 c.in_ok-bench.ensures.2))

pub returns-then-is_empty : goal.returns-then-is_empty
returns-then-is_empty c = λ w ok e.
    let rest = after_model w _ _ _ ok e c.in_ok-model.ensures.1 c.in_ok-model.ensures.2 in
    let more = after_rule w _ _ _ ok rest c.in_ok-rule.ensures.1 c.in_ok-rule.ensures.2 in
    let last = after_bench w _ _ _ ok more c.in_ok-bench.ensures.1 c.in_ok-bench.ensures.2 in
    let same = append_cancel_left (codes "tests ") _ _ (sym c.in_ok-tests.ensures ∙ last) in
    let none = eqb-true _ _ (sym c.is_empty.ensures ∙ c.if-is_empty.true) in
    let long = ap length same in
    let some = ok.tests.some in
    omega (arith, none, long, some)

pub returns-in-Some : goal.returns-in-Some
returns-in-Some c = λ w ok e.
    let rest = after_model w _ _ _ ok e c.in_ok-model.ensures.1 c.in_ok-model.ensures.2 in
    let more = after_rule w _ _ _ ok rest c.in_ok-rule.ensures.1 c.in_ok-rule.ensures.2 in
    let last = after_bench w _ _ _ ok more c.in_ok-bench.ensures.1 c.in_ok-bench.ensures.2 in
    let same = append_cancel_left (codes "tests ") _ _ (sym c.in_ok-tests.ensures ∙ last) in
    lacks_not 32 _ _ (subst (λ t. Lacks 32 t) c.in-Some.ensures.whole
    (subst (λ t. Lacks 32 t) (sym same) ok.tests.no_space))

pub returns-in-None : goal.returns-in-None
returns-in-None c = words_read (record {
  model = c.in_ok-model.model.now;
  rule = c.in_ok-rule.rule.now;
  bench = c.in_ok-bench.bench.now;
  tests = c.in_ok-tests.tests.now;
}) _ _ _ _ c.requires c.in_ok-model.ensures c.in_ok-rule.ensures c.in_ok-bench.ensures
    c.in_ok-tests.ensures (let some : length c.in_ok-tests.tests.now ≢ 0 =
    eqb-false _ _ (sym c.is_empty.ensures ∙ c.if-is_empty.false) in omega (arith, some))
    c.in-None.ensures
