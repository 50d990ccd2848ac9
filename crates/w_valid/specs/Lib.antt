pub mod Measured
pub mod Tables
pub mod JudgedBodies
pub mod Gradual
