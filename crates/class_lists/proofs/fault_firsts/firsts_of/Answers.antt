use Rattle.std.proofs.Common.{◌∙◌, ◌+◌, ◌++◌, ◌∷◌, [], ℕ, None, sym, ap, map, take, get_or, add-one}
use Rattle.std.specs.Prelude.{slice_get, Option}
use Rattle.fault_model.specs.Collapse.{Collapsed}
use Rattle.workers.proofs.Public.{take_more}
use Rattle.class_lists.proofs.fault_firsts.firsts_of.Goals as goal

pub loop-fault-preserved : goal.loop-fault-preserved
loop-fault-preserved c =
    let at = ap (λ (x : Collapsed). slice_get x.class_of c.loop-fault.fault)
    (sym c.classes-classes.ensures.part) ∙ c.class_of.ensures in
    let g : ℕ → Option ℕ = λ class. get_or c.args.found.now class None in
    record {
      count = c.in_ok-push.ensures.len ∙ ap (λ n. n + 1) c.loop-fault.invariant.count;
      each = c.in_ok-push.ensures.items
          ∙ ap (λ xs. xs ++ c.value_at.result ∷ []) c.loop-fault.invariant.each
          ∙ ap (λ x. map g (take c.loop-fault.fault c.args.job.now.classes.class_of) ++ x ∷ [])
          c.value_at.ensures
          ∙ take_more g c.args.job.now.classes.class_of c.loop-fault.fault c.class_of.result at
          ∙ ap (λ n. map g (take n c.args.job.now.classes.class_of))
          (sym (add-one c.loop-fault.fault));
    }
