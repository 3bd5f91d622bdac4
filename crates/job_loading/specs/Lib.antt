pub mod Jobs
pub mod Limits
pub mod Sums
