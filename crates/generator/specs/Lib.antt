pub mod RandomTests
pub mod Held
pub mod Generated
pub mod Keeping
