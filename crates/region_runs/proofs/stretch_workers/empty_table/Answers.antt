use Rattle.std.proofs.Common.{◌+◌, ◌∙◌, ap, IfSome, None}
use Rattle.std.proofs.lemmas.List.Elements.{All-push, All-same}
use Rattle.region_runs.proofs.stretch_workers.empty_table.Goals as goal

pub loop-stretch-preserved : goal.loop-stretch-preserved
loop-stretch-preserved g c = record {
  count = c.in_ok-push.ensures.len ∙ ap (λ n. n + 1) c.loop-stretch.invariant.count;
  none = All-same (λ at. IfSome at (λ _. ⊥)) c.push.new.self.items _ c.in_ok-push.ensures.items
      (All-push (λ at. IfSome at (λ _. ⊥)) c.loop-stretch.table.items None
      c.loop-stretch.invariant.none tt);
}
