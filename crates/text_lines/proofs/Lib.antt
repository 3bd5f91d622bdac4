mod FirstLine
mod FirstRow
mod BitRow
mod CutRows
mod RowFaults
pub mod Public
