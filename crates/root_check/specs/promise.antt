pub mod Children
pub mod Found
pub mod OwnRules
pub mod Schemas
