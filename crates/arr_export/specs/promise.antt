pub mod ArrayTrees
pub mod ValueColumns
