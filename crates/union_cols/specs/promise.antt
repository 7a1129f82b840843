pub mod Tags
pub mod UnionFormats
pub mod UnionRules
pub mod UnionSchemas
pub mod Unions
