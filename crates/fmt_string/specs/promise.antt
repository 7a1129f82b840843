pub mod FormatString
pub mod Keywords
pub mod Spelling
