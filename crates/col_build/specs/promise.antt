pub mod Encoding
pub mod Finished
