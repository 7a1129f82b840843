pub mod TreeCost
pub mod TreeData
pub mod TreeParts
