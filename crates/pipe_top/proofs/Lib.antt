mod Fitting
pub mod Runs
pub mod Bodies
mod OneAnswer
pub mod Unshown
pub mod Written
pub mod LinksMade
pub mod PlanMade
pub mod Flat
mod Begun
pub mod Carried
mod MemoryFaults
pub mod Kept
pub mod NodeNames
pub mod TypedKids
