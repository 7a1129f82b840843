pub mod ValuesTaken
pub mod ItemsMoved
pub mod ColumnBlocks
pub mod ColumnCosts
pub mod Counts
pub mod LawfulTables
pub mod Taken
pub mod FlatColumns
