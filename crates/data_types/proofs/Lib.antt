pub mod FieldLaws
pub mod FieldValues
pub mod StructColumns
pub mod HexPairs
pub mod ColumnCopies
pub mod Levels
pub mod MadeTypes
