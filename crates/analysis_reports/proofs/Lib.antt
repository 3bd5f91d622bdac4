mod CompactedTexts
mod ResponseTexts
mod LaunchedPairs
mod ReasonTexts
mod CountedTexts
mod HistogramTexts
mod BlockTexts
mod BlockingTexts
pub mod Public
