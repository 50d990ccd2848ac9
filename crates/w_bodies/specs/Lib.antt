pub mod Constants
pub mod Measured
