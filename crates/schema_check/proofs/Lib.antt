pub mod SchemaFails
pub mod SchemaParts
pub mod SchemaOne
pub mod SchemaValid
