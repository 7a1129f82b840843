pub mod ColumnSchema
pub mod FaultTexts
pub mod SchemaAnswers
pub mod Schemas
