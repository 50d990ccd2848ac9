pub mod OneByOne
pub mod SameValues
pub mod SegmentsApart
pub mod FilesCopied
pub mod FileByFile
pub mod LinkedProgram
pub mod PartsOfFiles
pub mod Begun
