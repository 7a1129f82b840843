pub mod promise
pub mod Schemas
pub mod SchemaAnswers
pub mod ColumnSchema
pub mod FaultTexts
