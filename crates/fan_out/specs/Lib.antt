pub mod promise
pub mod Pieces
pub mod Workers
