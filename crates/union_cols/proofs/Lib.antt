pub mod Formats
pub mod FormatSteps
pub mod OneUnion
pub mod Holding
pub mod Tables
pub mod Numbering
pub mod TagRules
pub mod TagItems
pub mod TagLaw
pub mod TagSteps
mod SomeFormat
mod NullColumns
