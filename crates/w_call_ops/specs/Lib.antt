pub mod Entering
pub mod KnownFunctions
pub mod Calling
pub mod Printing
