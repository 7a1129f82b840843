pub mod Entries
pub mod FaultTexts
pub mod PlanWords
pub mod Types
