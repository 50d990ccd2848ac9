pub mod Definitions
pub mod Imports
pub mod Linked
pub mod Starting
pub mod Laws
pub mod Reading
