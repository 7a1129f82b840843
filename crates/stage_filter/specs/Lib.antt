pub mod Kept
pub mod Plain
pub mod KeptTrees
pub mod Moving
pub mod Filters
pub mod Workers
