pub mod Line
pub mod Request
