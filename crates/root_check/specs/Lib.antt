pub mod promise
pub mod OwnRules
pub mod Founds
pub mod Schemas
pub mod KidAnswers
pub mod FaultTexts
pub mod Children
