pub mod TokenSteps
mod ShortItems
mod OpcodeTables
mod NumericBytes
mod CommonTokens
