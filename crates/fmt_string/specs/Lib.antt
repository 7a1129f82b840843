pub mod promise
pub mod Answer
pub mod Decimal
pub mod FaultTexts
pub mod FormatString
pub mod Meaning
pub mod Spelling
