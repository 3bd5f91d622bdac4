mod RangeCounts
mod ClassCounts
mod TakenCounts
mod JoinedCounts
mod CountsBefore
mod GroupWords
mod ListLanes
mod ClassGroups
pub mod Public
