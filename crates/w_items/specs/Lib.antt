pub mod Judged
pub mod Faults
pub mod Firsts
pub mod Kinds
pub mod SubTypes
