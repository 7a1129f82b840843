pub mod PlainBytes
pub mod Parts
mod EscapeCounts
pub mod LengthSums
pub mod KidsTold
pub mod Sizes
mod NumberedLines
mod FieldColumns
mod Entries
