pub mod promise
pub mod Takes
pub mod Tables
pub mod Gathered
