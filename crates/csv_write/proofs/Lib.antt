pub mod Lines
pub mod ChunkTexts
pub mod Readings
pub mod RunLemmas
