pub mod Offers
pub mod Beginning
pub mod Laws
