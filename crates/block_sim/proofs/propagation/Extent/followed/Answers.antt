use Rattle.std.proofs.{Common.{sym, ◌∙◌, subst}, lemmas.Bool.false≢true}
use Rattle.block_sim.{specs.Propagation.IsSettled, proofs.SettledLanes.{and_none, out_of}}
use Rattle.flat_circuit.{specs.Words.lane, proofs.Public.{lane_and, left_of}}
use Rattle.block_sim.proofs.propagation.Extent.followed.Goals as goal

pub returns-in-FirstHits-clause-within : goal.returns-in-FirstHits-clause-within
returns-in-FirstHits-clause-within c = λ k lt e.
    left_of (lane c.args.lanes k) (lane c.below_hits.result k)
    (sym (lane_and c.args.lanes c.below_hits.result k) ∙ e)

pub returns-in-FirstHits-clause-rest : goal.returns-in-FirstHits-clause-rest
returns-in-FirstHits-clause-rest c = λ k lt own out. subst (λ x. IsSettled x c.args.seen k)
    (sym c.in-FirstHits.is)
    (c.below_hits.ensures.rest k lt (out_of c.args.lanes c.below_hits.result k own out))

pub returns-in-FirstHits-clause-below : goal.returns-in-FirstHits-clause-below
returns-in-FirstHits-clause-below c = λ k lt settled. lane_and c.args.lanes c.below_hits.result k
    ∙ and_none (lane c.args.lanes k) (lane c.below_hits.result k) (λ e.
    (let one = c.below_hits.ensures.below k lt e in
    let j = subst (λ x. IsSettled x c.args.seen k) c.in-FirstHits.is settled one.0 one.1 one.2 in
    let out = one.3 j.0 j.1 j.2 in let at = j.3 in false≢true (sym out ∙ at)))
