pub mod FurtherColumns
pub mod Lists
pub mod Rows
pub mod Summaries
pub mod Tables
pub mod Views
