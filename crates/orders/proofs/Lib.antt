mod Numbers
mod MoveFaults
mod OneAnswer
pub mod Public
