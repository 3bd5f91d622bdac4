use Rattle.std.proofs.Common.{◌∙◌, ◌++◌, ◌∷◌, [], sym, ap, append_assoc, arith}
use Rattle.std.specs.Vec.Iter.{into_iter_items}
use Rattle.region_runs.proofs.ReturnsByStretch.{given_more, given_none}
use Rattle.region_runs.proofs.list_run.table_of.Goals as goal

pub loop-dones-init : goal.loop-dones-init
loop-dones-init g c = record {
  order = c.into_iter-dones-iterator.ensures.into_iter_gives.0;
  given = given_none c.args.stretches c.in_ok-table.table.items (omega (
    arith,
    c.in_ok-table.table.ok.0,
    c.in_ok-table.ensures.count,
  )) c.in_ok-table.ensures.none;
}

pub loop-dones-preserved : goal.loop-dones-preserved
loop-dones-preserved g c = record {
  order = append_assoc c.loop-dones.yielded (c.in-Some.dones ∷ []) (into_iter_items c.next.new.self)
      ∙ ap (λ l. c.loop-dones.yielded ++ l) (sym c.in-Some.ensures.steps.0)
      ∙ c.loop-dones.invariant.order;
  given = given_more c.args.stretches c.loop-dones.yielded c.in-Some.dones c.loop-dones.table.items
      c.put_by_stretch-table.result.items c.loop-dones.invariant.given
      c.put_by_stretch-table.ensures;
}
