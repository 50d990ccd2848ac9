pub mod Addresses
pub mod Counting
pub mod Parts
pub mod Exports
pub mod Files
pub mod Tests
pub mod Found
pub mod Placing
