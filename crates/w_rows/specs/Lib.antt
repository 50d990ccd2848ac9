pub mod Fitting
pub mod OneProof
pub mod Operands
pub mod TypeRows
pub mod Words
