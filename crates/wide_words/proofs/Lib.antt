pub mod Listed
pub mod Parts
pub mod Zeros
pub mod WideOverlays
pub mod Halves
pub mod SlotParts
pub mod Public
