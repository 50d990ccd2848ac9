pub mod Trees
pub mod InnermostHandle
pub mod GoesOn
pub mod Plainly
pub mod PassedLimits
pub mod Deep
