mod Columns
mod People
mod Tables
