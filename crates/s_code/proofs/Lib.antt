pub mod WrittenBehind
pub mod Sizes
pub mod Highs
pub mod Binds
mod Locals
mod HandlesWritten
mod SlotsWritten
mod Blocks
mod BuiltFromTokens
