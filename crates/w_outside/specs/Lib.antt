pub mod Outside
pub mod Files
pub mod FaultPlans
