pub mod Ranges
pub mod Values
pub mod Contexts
pub mod Stores
pub mod Captures
pub mod Configurations
