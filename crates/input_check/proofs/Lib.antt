mod Eight
mod GatesAmong
mod JobsOfAnswers
mod Parts
