pub mod Runs
pub mod Statistics
pub mod Replies
