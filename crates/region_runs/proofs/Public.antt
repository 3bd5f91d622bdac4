-- Lemmas on what a run for first tests keeps, on its errors, on the tests of windows, and on lists.
-- Proofs of the crates above cite only these.
pub use Rattle.region_runs.proofs.FirstHits.{first_open, firsts_kept, row_listed}
pub use Rattle.region_runs.proofs.PushedLists.{push_each, pushed}
pub use Rattle.region_runs.proofs.RunRefusals.{passing_fault}
pub use Rattle.region_runs.proofs.StretchRuns.{listed_class, some_hits}
pub use Rattle.region_runs.proofs.WindowTests.{looks_down, looks_up}
