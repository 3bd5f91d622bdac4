use Rattle.std.proofs.Common.{◌∙◌, sym}
use Rattle.wide_words.specs.Lanes.{lane_in}
use Rattle.region_sim.proofs.PackGates.{in_group}
use Rattle.region_sim.proofs.pack.lanes_of_stem.Goals as goal

pub returns-clause-own : goal.returns-clause-own
returns-clause-own g c = λ k lt here.
    let own = c.put.ensures.own k lt here in
    let some = c.lanes_of_classes.ensures (lane_in g.C.Copies.layout k)
    (in_group g.C.Copies.layout g.C.Copies.sized k) in
    (λ e. some.0 (sym own ∙ e), λ have. own ∙ some.1 have)
