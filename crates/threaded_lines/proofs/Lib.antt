mod LinesByPairs
mod LinesOfStretches
pub mod Public
