pub mod Labels
pub mod PlainTests
pub mod View
pub mod Stepping
pub mod FramesWorded
