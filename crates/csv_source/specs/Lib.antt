pub mod NextChunks
pub mod Sources
pub mod Refusals
pub mod SourceStreams
pub mod Pieces
pub mod NextPieces
pub mod AheadSources
