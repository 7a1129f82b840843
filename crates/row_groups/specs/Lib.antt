pub mod Items
pub mod Chains
pub mod Numbering
pub mod ItemKeys
pub mod Walk
