pub mod ReadingExact
mod AnswersOfDecode
mod LongerBytes
mod ContentsInPart
mod DecodersStand
mod FrontsOfBytes
mod EndsOfBytes
pub mod ContinuedModules
