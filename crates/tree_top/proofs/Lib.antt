pub mod SomeUnion
pub mod SomeRuns
pub mod OneAnswer
pub mod MemoryFaults
pub mod Coming
pub mod Carried
pub mod Lines
pub mod FewUnits
pub mod ForeignRows
pub mod UnionLines
pub mod Chunks
pub mod Tagging
pub mod NewLines
pub mod TagLines
pub mod NestLines
pub mod NewRows
pub mod Running
mod RunFacts
