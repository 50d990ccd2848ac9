pub mod LocalRuns
pub mod InitLog
pub mod FlagsOff
