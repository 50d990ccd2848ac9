pub mod Following
pub mod ByClasses
pub mod Names
pub mod Found
pub mod FilesPlaced
pub mod HostCounts
pub mod InstancesMade
