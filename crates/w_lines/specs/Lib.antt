pub mod Instructions
pub mod NameTable
pub mod Spelling
pub mod Written
pub mod Kept
