pub mod Texts
pub mod More
pub mod Found
