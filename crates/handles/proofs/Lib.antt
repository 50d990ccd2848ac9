pub mod HandleValues
pub mod ResultLines
