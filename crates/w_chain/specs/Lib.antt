pub mod ClauseLists
pub mod Layers
pub mod Counts
pub mod LendingTop
