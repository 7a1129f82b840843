pub mod Batches
pub mod Header
pub mod Made
pub mod Reading
pub mod Text
