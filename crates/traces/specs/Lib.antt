pub mod Stepping
pub mod Tracing
pub mod Auditing
