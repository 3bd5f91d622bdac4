use Rattle.std.proofs.Common.{◌≡◌, ◌+◌, ℕ, length, sym, ap, ◌∙◌, subst, arith}
use Rattle.std.specs.Prelude.{Some, slice_get, unwrap_or}
use Rattle.fault_model.specs.{Fault.FaultList, Collapse.Collapsed}
use Rattle.n_detect.specs.Detections.{IsClassCount}
use Rattle.n_detect.proofs.ClassCounts.{class_within, counts_of_faults}
use Rattle.region_runs.proofs.Public.{push_each}
use Rattle.n_detect.proofs.faults.by_fault.Goals as goal

pub count_of-requires-clause-class : goal.count_of-requires-clause-class
count_of-requires-clause-class c =
    let at = ap (λ (x : Collapsed). slice_get x.class_of c.loop-fault.fault)
    (sym (c.classes.ensures.part ∙ c.job-job.ensures.classes)) ∙ c.class_of-class.ensures in
    class_within c.args.run.now.whole c.loop-fault.fault c.class_of-class.result
    c.tests-tests.ensures.together at

pub loop-fault-preserved : goal.loop-fault-preserved
loop-fault-preserved c =
    let before = c.loop-fault.invariant in
    let job = c.args.run.now.whole in
    let at = ap (λ (x : Collapsed). slice_get x.class_of c.loop-fault.fault)
    (sym (c.classes.ensures.part ∙ c.job-job.ensures.classes)) ∙ c.class_of-class.ensures in
    let place : c.loop-fault.fault ≡ length c.loop-fault.counts.items =
    omega (arith, before.count, c.loop-fault.counts.ok) in
    let there : slice_get job.classes.class_of (length c.loop-fault.counts.items)
    ≡ Some c.class_of-class.result = ap (slice_get job.classes.class_of) (sym place) ∙ at in
    record {
      count = c.in_ok-push.ensures.len ∙ ap (λ n. n + 1) before.count;
      each = λ i n class is of.
          push_each (λ k m. (class : ℕ) → slice_get job.classes.class_of k ≡ Some class
          → IsClassCount job c.args.most class m) c.loop-fault.counts.items c.count_of.result
          (λ k m found other own. before.each k m other found own) (λ other own.
          let same : c.class_of-class.result ≡ other =
          ap (λ o. unwrap_or o other) (sym there ∙ own) in
          subst (λ k. IsClassCount job c.args.most k c.count_of.result) same c.count_of.ensures)
          i n (subst (λ xs. slice_get xs i ≡ Some n) c.in_ok-push.ensures.items is) class of;
    }

pub returns : goal.returns
returns c =
    let before = c.loop-fault.invariant in
    let number =
    ap (λ (x : FaultList). length x.list) (c.faults.ensures.part ∙ c.job-job.ensures.list) in
    counts_of_faults c.args.run.now.whole c.args.most c.loop-fault.counts.items
    c.tests-tests.ensures.together (omega (
      arith,
      before.count,
      c.loop-fault.counts.ok,
      c.loop-fault-test.false,
      c.loop-fault.auto.fault-end,
      c.count-count.ensures,
      number,
    )) before.each
