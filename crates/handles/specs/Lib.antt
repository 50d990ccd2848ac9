pub mod ByCode
pub mod HeldRuns
pub mod Owned
