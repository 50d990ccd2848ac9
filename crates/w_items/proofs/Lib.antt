pub mod GlobalsBelow
pub mod Names
pub mod Items
pub mod Faults
pub mod TypesOfGroups
mod JudgedContexts
