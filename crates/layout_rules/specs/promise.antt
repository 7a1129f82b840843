pub mod FaultTexts
pub mod Layout
pub mod Rules
pub mod Values
pub mod Views
pub mod Walk
