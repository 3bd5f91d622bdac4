mod StretchLines
mod Waiting
