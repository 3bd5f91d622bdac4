pub mod Texts
pub mod Stretches
