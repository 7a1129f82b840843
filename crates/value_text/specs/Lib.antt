pub mod Behind
pub mod Escapes
pub mod Lengths
pub mod Fields
pub mod Homes
