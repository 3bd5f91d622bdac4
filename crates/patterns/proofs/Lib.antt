mod Lanes
mod NumbersBelow
mod TestWords
mod AddedTest
mod JoinedTests
mod Octets
mod LeastTest
mod RowFaults
mod OneAnswer
mod CutTests
mod MadeTests
mod WrittenTests
pub mod Public
