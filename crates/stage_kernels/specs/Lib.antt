pub mod Picks
pub mod Slices
pub mod Packs
pub mod Unpacks
