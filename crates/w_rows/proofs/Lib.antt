pub mod WordCases
pub mod WordsOfKinds
pub mod WordsOfTypes
pub mod WordsGiven
pub mod WordsBelow
mod SameRows
mod ApartWords
pub mod WordRows
pub mod WordedOperands
mod MatchingRows
pub mod ReadyRows
mod ReadyTypes
