mod FirstLine
mod Named
mod ReadBack
mod ShiftedRows
mod SourceNames
