mod Records
mod Texts
mod Stretches
