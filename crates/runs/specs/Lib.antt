pub mod Delivery
pub mod Leaving
pub mod Running
