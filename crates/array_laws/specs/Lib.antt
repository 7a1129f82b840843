pub mod Pieces
pub mod Shown
pub mod Picking
pub mod Items
