pub mod Parsed
pub mod Entries
