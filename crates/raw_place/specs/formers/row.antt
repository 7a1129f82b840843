pub mod Pointer
pub mod Row
