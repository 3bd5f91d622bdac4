use Rattle.std.{proofs.Common.{◌≡◌, ◌∙◌, ap, subst, sym, true}, specs.Bool.Decides}
use Rattle.wide_words.specs.Wide.{number}
use Rattle.region_sim.{specs.Pack.HaveHitsIn, proofs.PackSlots.{kept_own, unlike_none}}
use Rattle.flat_circuit.{specs.Words.lane, proofs.Public.{lane_xor, unlike}}
use Rattle.region_sim.proofs.pack.kept_in_slot.Goals as goal

pub returns-clause-own : goal.returns-clause-own
returns-clause-own g c = λ k lt here.
    subst (λ n. Decides (lane n k) ((lane (number c.args.kept) k ≡ true)
    × (HaveHitsIn g.C.Copies.layout c.args.followed.now (number c.args.seen) k → ⊥)))
    (sym c.xor.ensures) (kept_own g.C.Copies.layout g.C.Copies.sized c.args.followed.now c.args.slot
    (number c.args.kept) (number c.args.seen) c.part-lanes.result c.part.result
    c.below_hits-below.result (number c.put.result) c.requires c.part-lanes.ensures.own
    c.part.ensures.own c.part.ensures.rest c.below_hits-below.ensures.below
    c.below_hits-below.ensures.rest c.put.ensures.own k lt here)

pub returns-clause-others : goal.returns-clause-others
returns-clause-others g c = λ k lt other. ap (λ n. lane n k) c.xor.ensures
    ∙ (lane_xor (number c.args.kept) (number c.put.result) k
    ∙ (ap (unlike (lane (number c.args.kept) k)) (c.put.ensures.others k lt other)
    ∙ unlike_none (lane (number c.args.kept) k)))
