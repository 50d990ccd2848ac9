pub mod Values
pub mod Groups
pub mod PackedTypes
pub mod PackedType
