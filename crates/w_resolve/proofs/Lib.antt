pub mod InPlace
pub mod LaidOut
pub mod BodyInPlace
pub mod Runs
pub mod References
