mod Given
mod TypesGiven
mod InstructionsGiven
mod FieldsFit
mod LocalsGiven
mod FieldsGiven
pub mod ModulesGiven
mod FewTags
