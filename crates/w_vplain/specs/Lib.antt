pub mod Prefixes
pub mod Frames
pub mod Measures
pub mod Row
pub mod View
pub mod Standing
