use Rattle.std.{proofs.Common.{◌≡◌, ◌<◌, ℕ, List, get_or, length, take}, specs.Prelude.Option}
use Rattle.report.specs.Curve.{news_at}
use Rattle.report.proofs.curve.news_of.Given as goal

-- each test has the number of the faults so far whose first test it is
pub record AreNewsOf (tests : ℕ) (firsts : List (Option ℕ)) (news : List ℕ) : Type 0 where
  pub count : length news ≡ tests
  pub each : (t : ℕ) → t < tests → get_or news t 0 ≡ news_at firsts t

abbrev pub invariant-loop-fault : goal.invariant-loop-fault
invariant-loop-fault l = AreNewsOf l.tests (take l.fault l.verdicts.firsts) l.news.items
