pub mod Verdict
pub mod Settling
pub mod Schedule
pub mod Stops
pub mod Work
pub mod Refused
pub mod Swept
