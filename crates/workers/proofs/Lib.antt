mod SettledLedgers
mod TrueOutcomes
mod ScheduleMoves
mod MoveLists
mod SeatCalls
mod TrueReports
mod ThreadHandles
mod ClosedLedgers
mod SweptBlocks
pub mod Public
