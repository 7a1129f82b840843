pub mod Formed
pub mod NodeView
pub mod FoundAt
pub mod Scans
