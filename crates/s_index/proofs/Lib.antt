mod CountedDeclarations
pub mod Entries
mod Lengths
mod SameTypes
