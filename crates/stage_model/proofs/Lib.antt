pub mod ChunkRows
pub mod BatchRows
pub mod SliceWindow
pub mod Numbers
pub mod StageColumns
