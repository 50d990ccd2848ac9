pub mod Items
pub mod Parts
pub mod Machine
pub mod Text
pub mod Standing
pub mod Written
pub mod Assembled
pub mod Answers
