pub mod promise
pub mod Answer
pub mod Outcomes
pub mod Diagnostics
pub mod NumberedTexts
pub mod Words
pub mod FaultTexts
pub mod RunAnswer
