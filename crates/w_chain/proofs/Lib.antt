pub mod CountsKept
pub mod MovedSegments
pub mod InnermostLayer
