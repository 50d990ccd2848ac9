pub mod Parts
pub mod Standing
pub mod Reducing
pub mod NextEvents
pub mod CommonReductions
