pub mod RunStop
pub mod Beginning
pub mod Position
pub mod Reached
pub mod Results
pub mod GoingOn
pub mod RunsToEvents
