pub mod promise
pub mod Checks
pub mod FaultTexts
pub mod Imports
pub mod ImportFaults
