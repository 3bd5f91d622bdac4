mod CutTests
mod Pieces
mod SharedFile
