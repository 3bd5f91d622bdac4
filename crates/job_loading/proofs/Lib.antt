mod JobsOfTexts
mod SummedFiles
pub mod Public
