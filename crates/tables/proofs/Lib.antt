mod FurtherCells
mod Heads
mod Nets
mod RowsByPairs
mod TablesOfTexts
mod Texts
