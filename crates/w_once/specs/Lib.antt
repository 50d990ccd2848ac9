pub mod Consumptions
