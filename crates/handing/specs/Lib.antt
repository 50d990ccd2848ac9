pub mod Files
pub mod Handed
