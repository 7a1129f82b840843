pub mod ShownParts
pub mod NodeParts
pub mod PlaceRules
pub mod PlaceItems
pub mod Sizes
pub mod ShownRules
pub mod ShownItems
pub mod ShownWalk
pub mod LawfulNodes
pub mod Rising
pub mod WindowNode
pub mod WindowItems
pub mod WindowTree
pub mod ChunkParts
pub mod Depths
pub mod SharedPieces
pub mod JoinedPieces
pub mod WorkerPieces
pub mod JoinedWindows
pub mod StructParts
pub mod StructLaw
pub mod PickedColumns
pub mod StructRows
pub mod PackedColumns
pub mod ReplacedColumn
pub mod ColumnForm
pub mod ColumnCosts
pub mod ColumnDepths
pub mod ColumnTypes
pub mod TableForm
mod Ranges
mod OneItem
mod OnceEach
mod AllItems
mod FlatTypes
