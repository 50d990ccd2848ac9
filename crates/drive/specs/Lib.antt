pub mod Built
pub mod Dumped
pub mod Laws
pub mod Linking
pub mod Audited
pub mod Meaning
