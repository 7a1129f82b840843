pub mod promise
pub mod Dictionary
pub mod StageGrammar
pub mod Typing
pub mod Stages
pub mod Links
pub mod FaultTexts
pub mod Traffic
