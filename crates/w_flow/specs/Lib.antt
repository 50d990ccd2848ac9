pub mod Flow
pub mod View
