pub mod Layouts
pub mod Lanes
pub mod Wide
pub mod WideOverlay
