pub mod Tokens
pub mod Loops
pub mod ListsWithCommas
pub mod BetweenBrackets
pub mod LoosestLevel
pub mod ItemsTakeTokens
