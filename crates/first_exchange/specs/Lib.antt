pub mod People
pub mod Tables
