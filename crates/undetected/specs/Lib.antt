pub mod Activated
pub mod Activation
pub mod Reasons
