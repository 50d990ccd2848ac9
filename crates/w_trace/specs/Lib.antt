pub mod Once
pub mod Events
pub mod Endings
pub mod Lines
pub mod Reading
pub mod Traces
pub mod Fitting
