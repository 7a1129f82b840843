pub mod Answer
pub mod Diagnostics
pub mod FaultTexts
pub mod MemoryFaults
pub mod RunAnswer
pub mod Words
