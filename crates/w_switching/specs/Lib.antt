pub mod BackTypes
pub mod Standing
pub mod Reductions
pub mod Sound
pub mod Moved
