pub mod FaultLines
pub mod Pieces
pub mod CommandLineStages
pub mod Meant
mod TreeLines
pub mod Rows
pub mod Taken
pub mod Taking
