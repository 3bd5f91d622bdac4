pub mod Blocking
pub mod Effects
pub mod Counting
pub mod Sorted
