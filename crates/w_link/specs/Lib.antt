pub mod Shifted
pub mod Resolved
pub mod Items
pub mod Fits
pub mod Fine
pub mod Laws
