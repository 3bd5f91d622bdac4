use Rattle.std.proofs.{Common.{◌+◌, ◌∙◌, ap, ℕ, Bool}, lemmas.List.Elements.{All-push, All-same}}
use Rattle.region_runs.proofs.stretch_workers.starts.Goals as goal

pub loop-place-preserved : goal.loop-place-preserved
loop-place-preserved g c = record {
  count = c.in_ok-push.ensures.len ∙ ap (λ n. n + 1) c.loop-place.invariant.count;
  first = All-same (λ one. (hits : ℕ → Bool) (at : ℕ)
      → g.A.Goal.means c.args.goal.now hits at at one) c.push.new.self.items _
      c.in_ok-push.ensures.items (All-push (λ one. (hits : ℕ → Bool) (at : ℕ)
      → g.A.Goal.means c.args.goal.now hits at at one) c.loop-place.kept.items _
      c.loop-place.invariant.first c.in_ok-start.ensures);
}
