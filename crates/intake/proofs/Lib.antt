pub mod LongFiles
pub mod ModulesInPieces
pub mod IntakesOfBytes
pub mod FilesTakenIn
