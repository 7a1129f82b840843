pub mod CodeFaults
pub mod RunCoding
pub mod RunRules
pub mod RunSchemas
pub mod Runs
