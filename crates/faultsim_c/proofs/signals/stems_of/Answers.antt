use Rattle.std.proofs.{Common.{◌∙◌, length, refl, ap, arith}, lemmas.List.length-set}
use Rattle.fault_model.specs.Collapse.{Collapsed}
use Rattle.faultsim_c.{specs.Calls.IsStemAt, proofs.Tables.next}
use Rattle.faultsim_c.proofs.signals.stems_of.Goals as goal

pub loop-class-preserved : goal.loop-class-preserved
loop-class-preserved c =
    let stems = c.loop-class.stems in
    let class = c.loop-class.class in
    let r = c.stem_of_class.result in
    let same = c.loop-class.invariant.0 in
    let low = c.loop-class-test.true in
    let fit = c.if-stems-count.false in
    let count = c.count.ensures in
    let end = c.count-class-end.ensures in
    let once = ap (λ (x : Collapsed). length x.representative) c.classes.ensures.part in
    let twice = ap (λ (x : Collapsed). length x.representative) c.classes-2.ensures.part in (
      length-set stems class r ∙ same,
      next (IsStemAt c.args.job.now) class r stems
          (omega (arith, same, low, fit, count, end, once, twice))
          (record { is = c.stem_of_class.ensures.stem }) c.loop-class.invariant.1,
    )

pub returns-clause-done : goal.returns-clause-done
returns-clause-done c fits =
    let high = c.loop-class-test.false in
    let end = c.count-class-end.ensures in
    let twice = ap (λ (x : Collapsed). length x.representative) c.classes-2.ensures.part in
    (refl, λ class lt. c.loop-class.invariant.1 class (omega (arith, lt, high, end, twice)))
