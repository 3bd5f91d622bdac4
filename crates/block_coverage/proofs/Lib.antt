mod InBlock
mod ListOrders
mod ListedBlocks
mod Owners
pub mod Public
mod SignalNames
mod SortedBlocks
mod Tallies
