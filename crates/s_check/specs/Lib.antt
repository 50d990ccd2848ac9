pub mod Definitions
pub mod Scopes
pub mod Rules
pub mod Parts
pub mod Refusal
pub mod Least
pub mod Views
pub mod Size
