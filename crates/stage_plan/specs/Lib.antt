pub mod promise
pub mod Code
pub mod Entries
pub mod FaultTexts
pub mod PlanWords
pub mod StageWords
pub mod Types
