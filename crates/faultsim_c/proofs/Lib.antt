pub mod Boxed
mod Firsts
pub mod Pointed
mod Replies
mod Tables
mod CircuitRows
mod Options
mod ObservedSignals
mod ListsOfJobs
mod LastTests
mod MovedTests
mod BlockLanes
mod FanOuts
