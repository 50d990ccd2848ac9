pub mod Options
pub mod Covers
pub mod References
mod Selects
mod Tables
pub mod Exact
pub mod ShortTypes
pub mod LabelsOfTables
pub mod SameTypes
pub mod RowsOfLists
pub mod FittingRows
