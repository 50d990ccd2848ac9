pub mod Faults
pub mod Reading
pub mod Places
pub mod Pieces
pub mod Ends
pub mod Continued
