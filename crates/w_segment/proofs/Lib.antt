mod PartsOfLists
mod OwnOperands
mod LabelsOfMarks
mod LocalsOfMarks
mod CountsOfMarks
mod SameShapes
mod LeftLevels
mod FramedLevels
mod ReturnedFrames
pub mod FactsOfValues
pub mod MoreLocals
mod StackRows
