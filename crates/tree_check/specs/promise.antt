pub mod Checks
pub mod FaultTexts
pub mod Numbers
pub mod Runs
