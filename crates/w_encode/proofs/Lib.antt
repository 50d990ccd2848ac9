mod Cases
mod BytesBehindBytes
mod ItemsWritten
mod TypesCanonical
mod InstructionsCanonical
mod FieldsCanonical
mod SegmentsCanonical
mod FunctionsCanonical
pub mod Canonical
pub mod SpelledCode
pub mod SpelledModules
mod WrittenRows
mod OpcodeRows
