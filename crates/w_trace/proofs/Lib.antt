pub mod Flags
pub mod Uses
pub mod OneAnswer
pub mod Counting
pub mod UsedStores
pub mod Redexes
pub mod Runs
pub mod Differences
pub mod TraceRows
pub mod EndingsSaid
pub mod LinesSaid
pub mod TraceLines
pub mod WrongLines
pub mod Texts
mod Fitting
