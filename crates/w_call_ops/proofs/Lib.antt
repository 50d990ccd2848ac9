mod Runs
mod KnownSoFar
mod FirstValues
pub mod FrameRoom
mod Arguments
pub mod InFunctions
pub mod OwnCalls
pub mod Invocations
mod FindingCallees
pub mod HostCalls
