mod DataNamed
mod JoinedRuns
mod SameKind
pub mod Totals
pub mod Steps
pub mod Places
pub mod Whole
mod SomeOf
mod FunctionsName
mod LocalRows
pub mod PackedLists
pub mod LaidTokens
mod OneInstruction
pub mod PlainInstructions
pub mod SameLists
