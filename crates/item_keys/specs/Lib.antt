pub mod Slots
pub mod Distinct
pub mod Search
