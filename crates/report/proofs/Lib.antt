mod CellNames
mod TextPieces
mod LinesOfFaults
mod VerdictsOfRuns
mod ReportsOfTexts
mod ClassFirsts
mod CurvePoints
mod WatchedRuns
pub mod Public
