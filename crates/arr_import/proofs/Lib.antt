pub mod Reading
pub mod Accesses
pub mod PlainColumns
pub mod WholeRows
