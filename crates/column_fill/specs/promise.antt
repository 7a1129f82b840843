pub mod FlatColumns
