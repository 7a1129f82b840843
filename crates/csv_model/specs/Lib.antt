pub mod promise
pub mod Batches
pub mod FaultTexts
pub mod Header
pub mod Made
pub mod Text
