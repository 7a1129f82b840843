pub mod Exploded
pub mod Faults
pub mod FlatTables
pub mod ListTrees
pub mod NestFaults
pub mod Nested
pub mod NestedTables
