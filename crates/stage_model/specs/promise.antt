pub mod Dictionary
pub mod FaultTexts
pub mod Links
pub mod StageGrammar
pub mod Stages
pub mod Traffic
pub mod Typing
