pub mod CodeOfFunctions
pub mod AnswersOfBodies
pub mod BodiesJudged
pub mod FunctionsMeasured
pub mod Judgements
mod KnownClasses
