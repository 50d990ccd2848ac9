pub mod Words
pub mod Pieces
pub mod Numbers
pub mod Hexadecimal
pub mod Types
pub mod Clauses
