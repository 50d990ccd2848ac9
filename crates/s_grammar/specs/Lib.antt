pub mod Kinds
pub mod Grammar
pub mod Texts
pub mod Operators
pub mod Parts
pub mod Syntax
pub mod Reading
pub mod Reads
