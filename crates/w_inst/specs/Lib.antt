pub mod Imports
pub mod Constants
pub mod Adding
pub mod Segments
pub mod Instances
