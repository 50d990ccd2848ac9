pub mod Second
pub mod Blocks
pub mod ItemsTakeTokens
pub mod CountedBrackets
pub mod Fronts
pub mod Exact
pub mod OneAnswer
pub mod Verdicts
