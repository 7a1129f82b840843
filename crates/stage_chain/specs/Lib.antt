pub mod promise
pub mod Boxes
pub mod Plans
pub mod Chains
