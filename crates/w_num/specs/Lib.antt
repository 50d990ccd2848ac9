pub mod Signed
pub mod Arithmetic
pub mod Division
pub mod Bits
pub mod Shifts
pub mod Comparisons
pub mod Conversions
