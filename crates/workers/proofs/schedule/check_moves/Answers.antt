use Rattle.std.{proofs.Common.{◌≡◌, ◌∙◌, refl, sym, rules, tests}, specs.Prelude.{nat_le, position}}
use Rattle.std.proofs.lemmas.Iterator.{YieldsList-from_slice, Search.position_from_yields_List}
use Rattle.workers.proofs.schedule.check_moves.Goals as goal

pub returns-in-Some-clause-refused : goal.returns-in-Some-clause-refused
returns-in-Some-clause-refused c =
    let found : c.position.result ≡ position (λ worker. nat_le c.args.workers worker)
    c.args.moves.now =
    position_from_yields_List (λ worker. nat_le c.args.workers worker) _ _ c.position.result
    c.position.ensures.ran (YieldsList-from_slice _ c.iter.ensures.rest)
    (λ x b q k. search (rules, tests)) in
    (c.in-Some.index, refl, sym found ∙ c.in-Some.is)
