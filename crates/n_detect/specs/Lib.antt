pub mod Detections
pub mod ListLanes
pub mod HitCounts
pub mod CountLaws
pub mod ClassTests
