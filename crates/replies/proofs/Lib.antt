pub mod TextInPieces
pub mod Refusals
