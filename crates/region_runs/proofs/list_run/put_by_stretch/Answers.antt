use Rattle.std.proofs.Common.{◌∙◌, ◌++◌, ◌∷◌, [], sym, ap, append_assoc, arith}
use Rattle.std.specs.Vec.Iter.{into_iter_items}
use Rattle.region_runs.proofs.ReturnsByStretch.{put_more, put_none, put_past}
use Rattle.region_runs.proofs.list_run.put_by_stretch.Goals as goal

pub loop-done-init : goal.loop-done-init
loop-done-init g c = record {
  order = c.into_iter-done-iterator.ensures.into_iter_gives.0;
  put = put_none c.args.table.items;
}

pub loop-done-preserved-then-stretch-len : goal.loop-done-preserved-then-stretch-len
loop-done-preserved-then-stretch-len g c = record {
  order = append_assoc c.loop-done.yielded (c.in-Some.done ∷ []) (into_iter_items c.next.new.self)
      ∙ ap (λ l. c.loop-done.yielded ++ l) (sym c.in-Some.ensures.steps.0)
      ∙ c.loop-done.invariant.order;
  put = put_more c.args.table.items c.loop-done.yielded c.loop-done.table.items c.in-Some.done
      c.loop-done.invariant.put;
}

pub loop-done-preserved-then-stretch-len-2 : goal.loop-done-preserved-then-stretch-len-2
loop-done-preserved-then-stretch-len-2 g c = record {
  order = append_assoc c.loop-done.yielded (c.in-Some.done ∷ []) (into_iter_items c.next.new.self)
      ∙ ap (λ l. c.loop-done.yielded ++ l) (sym c.in-Some.ensures.steps.0)
      ∙ c.loop-done.invariant.order;
  put = put_more c.args.table.items c.loop-done.yielded c.loop-done.table.items c.in-Some.done
      c.loop-done.invariant.put;
}

pub loop-done-preserved : goal.loop-done-preserved
loop-done-preserved g c = record {
  order = append_assoc c.loop-done.yielded (c.in-Some.done ∷ []) (into_iter_items c.next.new.self)
      ∙ ap (λ l. c.loop-done.yielded ++ l) (sym c.in-Some.ensures.steps.0)
      ∙ c.loop-done.invariant.order;
  put = put_past c.args.table.items c.loop-done.yielded c.loop-done.table.items c.in-Some.done
      (omega (arith, c.loop-done.table.ok.0, c.len.ensures, c.if-stretch-len.false))
      c.loop-done.invariant.put;
}
