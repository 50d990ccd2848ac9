pub mod Later
pub mod LaterStores
pub mod EmptiedByReductions
pub mod EmptiedByRuns
