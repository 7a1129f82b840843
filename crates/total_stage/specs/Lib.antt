pub mod Totals
pub mod Sums
pub mod Rows
pub mod Fits
pub mod Froms
