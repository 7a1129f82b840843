pub mod pointed
pub mod row
