pub mod FilesInBytes
pub mod HandedReplies
