pub mod Stepped
pub mod Printing
pub mod Known
pub mod Plainness
pub mod Meets
pub mod Attempted
pub mod Commonness
