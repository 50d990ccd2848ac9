pub mod ReadFiles
pub mod SettledRuns
pub mod TracesWritten
pub mod TraceAnswers
pub mod EventsFollowed
pub mod AuditReplies
