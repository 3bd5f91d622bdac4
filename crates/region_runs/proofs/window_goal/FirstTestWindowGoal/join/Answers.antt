use Rattle.std.proofs.Common.{◌+◌, ◌∙◌, Some, ap, arith, subst, sym}
use Rattle.region_sim.specs.Goals.{IsFirstHit}
use Rattle.region_runs.proofs.Joins.{first_later, first_never, none_of}
use Rattle.region_runs.proofs.window_goal.FirstTestWindowGoal.join.Goals as goal

pub returns-in-Some : goal.returns-in-Some
returns-in-Some c = λ hits own low mid high le up few same was found.
    let none = none_of c.args.kept.now (sym c.is_some.ensures ∙ c.if-is_some.false) in
    first_later c.args.start c.in-Some.test (Some c.saturating_add.result)
    (λ fits. ap Some (omega (arith, c.saturating_add.ensures, fits))) hits own low mid high le up
    few same (subst (IsFirstHit hits low (c.args.start + mid)) none was)
    (subst (IsFirstHit own mid high) c.in-Some.is found)

pub returns-in-None : goal.returns-in-None
returns-in-None c = λ hits own low mid high le up few same was found.
    let none = none_of c.args.kept.now (sym c.is_some.ensures ∙ c.if-is_some.false) in
    first_never c.args.start hits own low mid high le up few same
    (subst (IsFirstHit hits low (c.args.start + mid)) none was)
    (subst (IsFirstHit own mid high) c.in-None.is found)
