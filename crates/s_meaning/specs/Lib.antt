pub mod Numbers
pub mod Terms
pub mod Focus
pub mod Steps
pub mod Eval
pub mod Typing
pub mod Typed
pub mod Laws
