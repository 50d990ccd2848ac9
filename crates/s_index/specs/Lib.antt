pub mod Handled
pub mod Numbers
pub mod Types
pub mod Indices
pub mod Views
pub mod Limits
