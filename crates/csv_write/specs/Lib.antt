pub mod promise
pub mod Lines
pub mod CsvTexts
pub mod ChunkTexts
pub mod Readings
pub mod Ways
pub mod Faults
pub mod Runs
