pub mod Conts
pub mod Slots
