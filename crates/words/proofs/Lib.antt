pub mod AddedCommands
pub mod TakenWords
pub mod SimpleCommands
pub mod Numerals
mod LineRows
