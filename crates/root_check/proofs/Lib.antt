pub mod RootAnswers
pub mod ChildFaults
pub mod Faultless
