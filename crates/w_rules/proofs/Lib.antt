mod Groups
pub mod Preorder
pub mod Derive
mod Rules
pub mod ValidTypes
mod SpacesSoFar
pub mod Marks
pub mod Contexts
pub mod JoinedTypes
pub mod DataNeeds
mod NeedsOfBodies
mod SoundModules
