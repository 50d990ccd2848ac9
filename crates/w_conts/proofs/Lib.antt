pub mod SerialsAmongSlots
pub mod Entries
pub mod EntryCounts
pub mod References
pub mod OpenedStores
pub mod PutContinuations
pub mod TakenContinuations
