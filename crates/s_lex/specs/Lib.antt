pub mod Bytes
pub mod Texts
pub mod Stands
pub mod Pieces
pub mod Lexes
