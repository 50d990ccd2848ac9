pub mod Links
pub mod Files
pub mod Parts
pub mod Segments
pub mod Laws
