pub mod TypesWritten
pub mod InstructionsWritten
pub mod FlatWritten
pub mod FieldsWritten
pub mod Canon
pub mod Spelled
