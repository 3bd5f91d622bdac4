pub mod Stretches
pub mod Pieces
