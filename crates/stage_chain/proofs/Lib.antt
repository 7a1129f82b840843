mod TypedKinds
pub mod Planning
pub mod Chaining
pub mod Driving
