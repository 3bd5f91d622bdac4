pub mod Blocks
pub mod BlockingReports
pub mod Histogram
pub mod Detected
pub mod Compacted
pub mod Responses
pub mod Pairs
pub mod Reasons
