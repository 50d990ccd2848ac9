pub mod Status
pub mod Pieces
pub mod Answer
pub mod Stop
pub mod Origin
