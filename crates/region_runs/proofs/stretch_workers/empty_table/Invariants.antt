use Rattle.std.proofs.Common.{◌≡◌, All, IfSome, vec_len}
use Rattle.region_runs.proofs.stretch_workers.empty_table.Given as goal

abbrev pub invariant-loop-stretch : goal.invariant-loop-stretch
invariant-loop-stretch g l = record {
  count : vec_len l.table ≡ l._stretch;
  none : All (λ at. IfSome at (λ _. ⊥)) l.table.items;
}
