mod ElementsAtMarks
mod TestNumbers
mod PushedElements
mod TallyDigits
mod DetectedClasses
mod SteepestOrder
mod OrderedTests
mod ReversedLists
mod KeptTests
mod LastTests
pub mod Public
mod LeftClasses
