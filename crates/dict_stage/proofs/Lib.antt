pub mod Texts
pub mod Codes
pub mod Recoded
pub mod ReplacedChildren
pub mod Chunks
pub mod Remade
pub mod Streams
