pub mod Outcomes
pub mod Elements
pub mod Store
pub mod Operations
pub mod Lending
