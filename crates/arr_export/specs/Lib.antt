pub mod promise
pub mod CodeSchema
pub mod SchemaSize
pub mod ArrayTrees
pub mod ValueColumns
