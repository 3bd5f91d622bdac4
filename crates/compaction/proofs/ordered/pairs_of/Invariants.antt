use Rattle.std.{proofs.Common.{◌≡◌, ◌-◌, ◌∷◌, [], take}, specs.Prelude.flat_map}
use Rattle.compaction.proofs.ordered.pairs_of.Given as goal

abbrev pub invariant-loop-test : goal.invariant-loop-test
invariant-loop-test l =
    l.places.items ≡ flat_map (λ t. (t - 1) ∷ t ∷ []) (take l.test-index l.order)
