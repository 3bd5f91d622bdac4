pub mod PartText
pub mod Cut
pub mod PartReading
pub mod Merging
pub mod WholeMerge
