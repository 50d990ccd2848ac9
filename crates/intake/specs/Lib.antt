pub mod InputFault
pub mod Intake
pub mod Reading
