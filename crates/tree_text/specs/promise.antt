pub mod Answers
pub mod FaultTexts
pub mod Report
pub mod Standing
pub mod TreeText
