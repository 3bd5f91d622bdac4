pub mod Checks
pub mod Counts
pub mod Objects
pub mod Words
