pub mod Kept
pub mod Drained
pub mod FaultTexts
