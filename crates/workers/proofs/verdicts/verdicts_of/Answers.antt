use Rattle.std.proofs.Common.{◌∙◌, ◌+◌, ◌++◌, ◌∷◌, [], ℕ, sym, ap, arith, map, take, length}
use Rattle.std.proofs.{Common.add-one, lemmas.List.take_all}
use Rattle.std.specs.Prelude.{slice_get, Option}
use Rattle.fault_model.specs.Collapse.{Collapsed}
use Rattle.fault_ledger.specs.Settled.{status}
use Rattle.workers.{specs.Verdict.settled_at, proofs.TrueOutcomes.{class_in, take_more}}
use Rattle.workers.proofs.verdicts.verdicts_of.Goals as goal

pub status_of-requires : goal.status_of-requires
status_of-requires g c =
    class_in c.args.job.now (g.L.Statuses.shape_of c.args.ledger.now) c.loop-fault.fault
    c.class_of.result c.classes-classes.ensures.together c.requires.shape
    (ap (λ (x : Collapsed). slice_get x.class_of c.loop-fault.fault)
    (sym c.classes-classes.ensures.part) ∙ c.class_of.ensures)

pub unreachable-requires : goal.unreachable-requires
unreachable-requires g c =
    let s = c.requires.settled in
    let lt = class_in c.args.job.now (g.L.Statuses.shape_of c.args.ledger.now) c.loop-fault.fault
    c.class_of.result c.classes-classes.ensures.together c.requires.shape
    (ap (λ (x : Collapsed). slice_get x.class_of c.loop-fault.fault)
    (sym c.classes-classes.ensures.part) ∙ c.class_of.ensures) in
    let own = s.3 c.class_of.result lt in
    c.in_default.not-Settled own.0 (c.status_of.ensures s.0 s.1 s.2 ∙ own.1)

pub loop-fault-preserved : goal.loop-fault-preserved
loop-fault-preserved g c =
    let at = ap (λ (x : Collapsed). slice_get x.class_of c.loop-fault.fault)
    (sym c.classes-classes.ensures.part) ∙ c.class_of.ensures in
    record {
      count = c.in_ok-push.ensures.len ∙ ap (λ n. n + 1) c.loop-fault.invariant.count;
      each = λ h l e.
          let first : ℕ → Option ℕ = λ class.
          settled_at (status (g.L.Statuses.shape_of c.args.ledger.now) h class) in
          let own = ap settled_at (c.in-Settled.ensures h l e) in
          c.in_ok-push.ensures.items ∙ ap (λ xs. xs ++ c.in-Settled.first ∷ [])
          (c.loop-fault.invariant.each h l e)
          ∙ ap (λ x. map first (take c.loop-fault.fault c.args.job.now.classes.class_of)
          ++ x ∷ []) own
          ∙ take_more first c.args.job.now.classes.class_of c.loop-fault.fault c.class_of.result at
          ∙ ap (λ n. map first (take n c.args.job.now.classes.class_of))
          (sym (add-one c.loop-fault.fault));
    }

pub returns-clause-firsts : goal.returns-clause-firsts
returns-clause-firsts g c = λ h l e.
    let first : ℕ → Option ℕ = λ class.
    settled_at (status (g.L.Statuses.shape_of c.args.ledger.now) h class) in
    let together = c.classes-classes.ensures.together in
    let n = ap (λ (x : _). length x.list) together.list in
    let m = ap (λ (x : _). length x.list) c.faults.ensures.part in
    c.of.ensures.firsts ∙ c.loop-fault.invariant.each h l e
    ∙ ap (map first) (take_all c.loop-fault.fault c.args.job.now.classes.class_of (omega (
      arith,
      together.classes.count,
      n,
      m,
      c.count-fault-end.ensures,
      c.loop-fault-test.false,
    )))
