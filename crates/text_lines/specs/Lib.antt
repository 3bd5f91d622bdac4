pub mod Lines
pub mod Rows
pub mod Reading
pub mod Starts
