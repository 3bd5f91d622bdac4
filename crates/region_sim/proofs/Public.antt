-- Lemmas on the order of classes and on open places. Proofs of the crates above cite only these.
pub use Rattle.region_sim.proofs.ClassOrders.{all_in_order, all_within}
pub use Rattle.region_sim.proofs.RegionHits.{next_still, successors_open}
