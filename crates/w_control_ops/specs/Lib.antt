pub mod Ended
pub mod Exits
pub mod Entering
pub mod Left
