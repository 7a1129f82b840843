pub mod Over
pub mod Ran
pub mod Traffic
