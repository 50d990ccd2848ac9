pub mod InstructionRows
pub mod LineWords
pub mod LinesComplete
pub mod Lookups
pub mod RowsRead
pub mod TokensRead
pub mod LinesRead
