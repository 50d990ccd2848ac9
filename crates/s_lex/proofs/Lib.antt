pub mod Runs
pub mod Values
pub mod Tables
pub mod Longest
pub mod PieceLaw
pub mod Places
pub mod BytesIntoTokens
pub mod SomeWay
pub mod TokenTexts
mod PieceRows
